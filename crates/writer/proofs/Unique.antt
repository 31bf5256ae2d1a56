-- A stream tells its recording, and where it ends.
use Rattle.std.proofs.Common.{◌≡◌, ℕ, zero, suc, ◌+◌, ◌-◌, ◌*◌, ◌/◌, ◌%◌, ◌<◌, ◌≤◌, List, [], ◌∷◌, ◌++◌, length, drop, sym, refl, ap, ◌∙◌, subst, ap₂, append_assoc, append-nil, div-add-mod', arith}
use mathlib.Core.List.{append_cancel_left, head-eq_of_cons-eq, tail-eq_of_cons-eq}
use Rattle.std.specs.List.{AllByRecursion}
use Rattle.schedule.specs.Ranges.{Ranges, Lawful, alphabet, end_mark}
use Rattle.schedule.proofs.Sizes.{by_lead}
use Rattle.writer.specs.Stream.{Valid, marks, symbols, first_spill, first_pass, in_blocks, group, closed, stream}
use Rattle.writer.specs.Passes.{pair_number, pair_of, second_pass_back}
use Rattle.writer.proofs.Inverse.{passes_taken_back, spill_below}
use Rattle.writer.proofs.Closing.{marks_one, marks_two, first_mark, symbols_lone}
use Rattle.writer.proofs.Shape.{symbols_fit}

two_blocks_unique : (base w w' : ℕ) (p q : List ℕ) →
    (w % base) ∷ (w / base) ∷ p ≡ (w' % base) ∷ (w' / base) ∷ q → (w ≡ w') × (p ≡ q)
two_blocks_unique base w w' p q e =
    let f = tail-eq_of_cons-eq e in
    let low = head-eq_of_cons-eq e in
    let high = head-eq_of_cons-eq f in
    (cc (div-add-mod' w base, div-add-mod' w' base), tail-eq_of_cons-eq f)

pub in_blocks_unique : (lead base j w w' : ℕ) (p q : List ℕ) →
    in_blocks lead base j w ++ p ≡ in_blocks lead base j w' ++ q → (w ≡ w') × (p ≡ q)
in_blocks_unique zero base zero w w' p q e = (head-eq_of_cons-eq e, tail-eq_of_cons-eq e)
in_blocks_unique (suc l) base zero w w' p q e = two_blocks_unique base w w' p q e
in_blocks_unique l base (suc j) w w' p q e = two_blocks_unique base w w' p q e

pub group_unique : (R : Ranges) (j r r' y y' : ℕ) (p q : List ℕ) → y < R.spill j → y' < R.spill j →
    group R j r y ++ p ≡ group R j r' y' ++ q → (r ≡ r') × (y ≡ y') × (p ≡ q)
group_unique R j r r' y y' p q h h' e =
    let f = in_blocks_unique R.lead R.base j (r * R.spill j + y) (r' * R.spill j + y') p q e in
    let same = sym ((passes_taken_back R).second j r y h) ∙ ap (second_pass_back R j) f.0 ∙ (passes_taken_back R).second j r' y' h' in
    (ap (λ (d : ℕ × ℕ). d.0) same, ap (λ (d : ℕ × ℕ). d.1) same, f.1)

-- A list of groups begins with a group of its first spill.
pub closed_head : (R : Ranges) (j y : ℕ) (ss : List ℕ) → (r : ℕ) × (rest : List ℕ) × (closed R j y ss ≡ group R j r y ++ rest)
closed_head R j y [] = (0, [], sym (append-nil _))
closed_head R j y (s ∷ []) = (0, [], sym (append-nil _))
closed_head R j y (s ∷ t ∷ ss) = ((first_pass R j s t).0, closed R (suc j) (first_pass R j s t).1 ss, refl)

pub head_unique : (R : Ranges) (j y y' : ℕ) (ss ss' a b : List ℕ) → y < R.spill j → y' < R.spill j →
    closed R j y ss ++ a ≡ closed R j y' ss' ++ b → y ≡ y'
head_unique R j y y' ss ss' a b h h' e =
    let c = closed_head R j y ss in
    let d = closed_head R j y' ss' in
    (group_unique R j c.0 d.0 y y' (c.1 ++ a) (d.1 ++ b) h h'
    (cc (append_assoc (group R j c.0 y) c.1 a, append_assoc (group R j d.0 y') d.1 b, c.2, d.2))).1

-- Symbols in pairs of blocks, and at last a pair whose second symbol is the mark m.
abbrev pub Ended : ℕ → List ℕ → Type 0
Ended m [] = ⊥
Ended m (s ∷ []) = ⊥
Ended m (s ∷ t ∷ []) = (s ≤ m) × (t ≡ m)
Ended m (s ∷ t ∷ u ∷ ss) = (s < m) × (t < m) × Ended m (u ∷ ss)

module _ (R : Ranges) (law : Lawful R) where
  step_unique : (j y y' s t s' t' : ℕ) (ss ss' a b : List ℕ) → j < R.steps → y < R.spill j → y' < R.spill j →
      s < alphabet R → t < alphabet R → s' < alphabet R → t' < alphabet R →
      closed R j y (s ∷ t ∷ ss) ++ a ≡ closed R j y' (s' ∷ t' ∷ ss') ++ b →
      (y ≡ y') × (s ≡ s') × (t ≡ t') ×
      (closed R (suc j) (first_pass R j s t).1 ss ++ a ≡ closed R (suc j) (first_pass R j s' t').1 ss' ++ b)
  step_unique j y y' s t s' t' ss ss' a b l h h' hs ht hs' ht' e =
      let p = first_pass R j s t in
      let p' = first_pass R j s' t' in
      let g = group_unique R j p.0 p'.0 y y' (closed R (suc j) p.1 ss ++ a) (closed R (suc j) p'.1 ss' ++ b) h h'
      (cc (append_assoc (group R j p.0 y) (closed R (suc j) p.1 ss) a, append_assoc (group R j p'.0 y') (closed R (suc j) p'.1 ss') b)) in
      let k = head_unique R (suc j) p.1 p'.1 ss ss' a b (spill_below R law j s t l hs ht) (spill_below R law j s' t' l hs' ht') g.2 in
      let same = sym ((passes_taken_back R).first j s t l hs ht) ∙ ap₂ (λ (r y : ℕ). pair_of R (pair_number R j r y)) g.0 k
      ∙ (passes_taken_back R).first j s' t' l hs' ht' in
      (g.1, ap (λ (d : ℕ × ℕ). d.0) same, ap (λ (d : ℕ × ℕ). d.1) same, g.2)

  closed_unique : (ss ss' : List ℕ) (j y y' : ℕ) (a b : List ℕ) → Ended R.base ss → Ended R.base ss' →
      2 * j + length ss ≤ 2 * R.steps → 2 * j + length ss' ≤ 2 * R.steps → y < R.spill j → y' < R.spill j →
      closed R j y ss ++ a ≡ closed R j y' ss' ++ b → (y ≡ y') × (ss ≡ ss') × (a ≡ b)
  closed_unique [] ss' j y y' a b v w l l' h h' e = absurd v
  closed_unique (s ∷ []) ss' j y y' a b v w l l' h h' e = absurd v
  closed_unique (s ∷ t ∷ ss) [] j y y' a b v w l l' h h' e = absurd w
  closed_unique (s ∷ t ∷ ss) (s' ∷ []) j y y' a b v w l l' h h' e = absurd w
  closed_unique (s ∷ t ∷ []) (s' ∷ t' ∷ []) j y y' a b v w l l' h h' e =
      let u = step_unique j y y' s t s' t' [] [] a b (omega arith) h h' (omega arith) (omega arith) (omega arith) (omega arith) e in (
        u.0,
        cc (u.1, u.2),
        (group_unique R (suc j) 0 0 _ _ a b (spill_below R law j s t (omega arith) (omega arith) (omega arith))
            (spill_below R law j s' t' (omega arith) (omega arith) (omega arith)) u.3).2,
      )
  closed_unique (s ∷ t ∷ []) (s' ∷ t' ∷ u' ∷ ss') j y y' a b v w l l' h h' e =
      let u = step_unique j y y' s t s' t' [] (u' ∷ ss') a b (omega arith) h h' (omega arith) (omega arith) (omega arith) (omega arith) e in
      absurd (omega arith)
  closed_unique (s ∷ t ∷ u ∷ ss) (s' ∷ t' ∷ []) j y y' a b v w l l' h h' e =
      let u = step_unique j y y' s t s' t' (u ∷ ss) [] a b (omega arith) h h' (omega arith) (omega arith) (omega arith) (omega arith) e in
      absurd (omega arith)
  closed_unique (s ∷ t ∷ x ∷ ss) (s' ∷ t' ∷ x' ∷ ss') j y y' a b v w l l' h h' e =
      let u = step_unique j y y' s t s' t' (x ∷ ss) (x' ∷ ss') a b (omega arith) h h' (omega arith) (omega arith) (omega arith) (omega arith) e in
      let more = closed_unique (x ∷ ss) (x' ∷ ss') (suc j) _ _ a b v.2 w.2 (omega arith) (omega arith)
      (spill_below R law j s t (omega arith) (omega arith) (omega arith)) (spill_below R law j s' t' (omega arith) (omega arith) (omega arith)) u.3 in
      (u.0, cc (u.1, u.2, more.1), more.2)

  abbrev Below : List ℕ → Type 0
  Below = AllByRecursion (λ x. x < R.base)

  ended_pair : (s t : ℕ) (ss : List ℕ) → s < R.base → t < R.base → Ended R.base ss → Ended R.base (s ∷ t ∷ ss)
  ended_pair s t [] h k e = absurd e
  ended_pair s t (x ∷ ss) h k e = (h, k, e)

  -- Blocks with their marks are ended.
  pub ended : (xs : List ℕ) (n : ℕ) → Below xs → R.lead ≤ n → (n - R.lead + length xs) % 2 ≡ 0 → Ended R.base (xs ++ marks R n)
  ended [] n v h e = subst (Ended R.base) (sym (marks_two R n (omega arith))) (omega arith, refl)
  ended (x ∷ []) n v h e = subst (λ (ms : List ℕ). Ended R.base (x ∷ ms)) (sym (marks_one R n (omega arith))) (omega arith, refl)
  ended (x ∷ x' ∷ xs) n v h e = ended_pair x x' (xs ++ marks R n) v.0 v.1.0 (ended xs n v.1.1 h (omega arith))

  -- The blocks stand before the first mark.
  before_mark : (xs ys ms ms' : List ℕ) → Below xs → Below ys →
      xs ++ end_mark R ∷ ms ≡ ys ++ end_mark R ∷ ms' → xs ≡ ys
  before_mark [] [] ms ms' v w e = refl
  before_mark [] (y ∷ ys) ms ms' v w e = absurd (omega (arith, head-eq_of_cons-eq e))
  before_mark (x ∷ xs) [] ms ms' v w e = absurd (omega (arith, head-eq_of_cons-eq e))
  before_mark (x ∷ xs) (y ∷ ys) ms ms' v w e =
      cc (before_mark xs ys ms ms' v.1 w.1 (tail-eq_of_cons-eq e))

  same_blocks : (xs ys : List ℕ) (m n : ℕ) → Below xs → Below ys → xs ++ marks R m ≡ ys ++ marks R n → xs ≡ ys
  same_blocks xs ys m n v w e =
      let c = first_mark R m in
      let d = first_mark R n in
      before_mark xs ys c.0 d.0 v w (cc (c.1, d.1))

  -- The stream where the lead is l.
  abbrev pub stream_at : ℕ → List ℕ → List ℕ
  stream_at l blocks = closed R 0 (first_spill l (symbols R blocks)) (drop l (symbols R blocks))

  pub tail_ended : (xs : List ℕ) (n : ℕ) → Below xs → n ≡ length xs + R.lead → Ended R.base (xs ++ marks R n)
  tail_ended xs n v e = ended xs n v (omega arith) (omega arith)

  -- What the stream where the lead is l tells.
  abbrev Tells : ℕ → Type 0
  Tells l = (xs ys a b : List ℕ) → Valid R xs → Valid R ys → stream_at l xs ++ a ≡ stream_at l ys ++ b → (xs ≡ ys) × (a ≡ b)

  unique_alone : R.lead ≡ 0 → Tells 0
  unique_alone e xs ys a b v w f =
      let p = symbols_fit R law xs v in
      let q = symbols_fit R law ys w in
      let low : 0 < R.spill 0 = omega (arith, law.first_spill_alone e) in
      let u = closed_unique (symbols R xs) (symbols R ys) 0 0 0 a b (tail_ended xs (length xs) v.below (omega arith))
      (tail_ended ys (length ys) w.below (omega arith)) (omega arith) (omega arith) low low f in
      (same_blocks xs ys (length xs) (length ys) v.below w.below u.1, u.2)

  -- With lead 1 the mark stands first in the stream of no blocks, and in no other.
  not_empty : R.lead ≡ 1 → (x : ℕ) (xs a b : List ℕ) → x < R.base → stream_at 1 [] ++ a ≡ stream_at 1 (x ∷ xs) ++ b → ⊥
  not_empty e x xs a b h f =
      let top = law.first_spill_lead e in
      let mark = ap (first_spill 1) (symbols_lone R e) in
      omega (
        arith,
        head_unique R 0 (first_spill 1 (symbols R [])) x (drop 1 (symbols R [])) (drop 1 (symbols R (x ∷ xs))) a b (omega arith) (omega arith) f,
      )

  unique_led : R.lead ≡ 1 → Tells 1
  unique_led e [] [] a b v w f = (refl, append_cancel_left (stream_at 1 []) a b f)
  unique_led e [] (y ∷ ys) a b v w f = absurd (not_empty e y ys a b w.below.0 f)
  unique_led e (x ∷ xs) [] a b v w f = absurd (not_empty e x xs b a v.below.0 (sym f))
  unique_led e (x ∷ xs) (y ∷ ys) a b v w f =
      let p = symbols_fit R law (x ∷ xs) v in
      let q = symbols_fit R law (y ∷ ys) w in
      let top = law.first_spill_lead e in
      let u = closed_unique (xs ++ marks R (length (x ∷ xs))) (ys ++ marks R (length (y ∷ ys))) 0 x y a b
      (tail_ended xs (length (x ∷ xs)) v.below.1 (omega arith)) (tail_ended ys (length (y ∷ ys)) w.below.1 (omega arith))
      (omega arith) (omega arith) (omega arith) (omega arith) f in
      let same = same_blocks xs ys (length (x ∷ xs)) (length (y ∷ ys)) v.below.1 w.below.1 u.1 in
      (cc u.0, u.2)

  pub stream_unique : (xs ys a b : List ℕ) → Valid R xs → Valid R ys → stream R xs ++ a ≡ stream R ys ++ b → (xs ≡ ys) × (a ≡ b)
  stream_unique = by_lead Tells R law unique_alone unique_led
