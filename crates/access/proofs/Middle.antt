-- The groups in the middle of a stream.
use Rattle.std.proofs.Common.{◌≡◌, ℕ, zero, suc, ◌+◌, ◌-◌, ◌*◌, ◌/◌, ◌%◌, ◌<◌, ◌≤◌, List, [], ◌∷◌, ◌++◌, length, sym, refl, ap, ◌∙◌, append_assoc, append-nil, mod-lt, div-add-mod', arith}
use Rattle.std.proofs.lemmas.Grind.{common_steps}
use Rattle.std.proofs.lemmas.List.{length-append, take_at, drop_at}
use Rattle.schedule.specs.Ranges.{Ranges, Lawful}
use Rattle.writer.specs.Stream.{first_pass, in_blocks, group, groups, closed}
use Rattle.writer.specs.Holding.{last_spill}
use Rattle.writer.proofs.Numbers.{group_length}
use Rattle.writer.proofs.Shape.{first_length}
use Rattle.reader.specs.Back.{limit}
use Rattle.reader.proofs.Limits.{below_limit, zero_below_limit}
use Rattle.access.specs.Lookup.{start, part, earlier, later}

-- The groups of the pairs before, and then those from group k on.
pub closed_append : (R : Ranges) (j k y : ℕ) (xs zs : List ℕ) → length xs ≡ 2 * (k - j) → j ≤ k →
    closed R j y (xs ++ zs) ≡ groups R j y xs ++ closed R k (last_spill R j y xs) zs
closed_append R j k y [] zs e h = ap (λ (i : ℕ). closed R i y zs) (omega arith)
closed_append R j k y (x ∷ []) zs e h = absurd (omega arith)
closed_append R j k y (s ∷ t ∷ xs) zs e h =
    let here = group R j (first_pass R j s t).0 y in
    ap (λ (bs : List ℕ). here ++ bs) (closed_append R (suc j) k (first_pass R j s t).1 xs zs (omega arith) (omega arith))
    ∙ sym (append_assoc here _ _)

-- A group of the spill y comes next, and its carrier is below its limit.
pub record Headed (R : Ranges) (j y : ℕ) (zs : List ℕ) : Type 0 where
  pub carrier : ℕ
  pub rest : List ℕ
  pub is : closed R j y zs ≡ group R j carrier y ++ rest
  pub below : carrier < limit R j

pub headed : (R : Ranges) → Lawful R → (j y : ℕ) (zs : List ℕ) → 2 * j + length zs ≤ 2 * R.steps → Headed R j y zs
headed R law j y [] h = record { carrier = 0; rest = []; is = sym (append-nil _); below = zero_below_limit R law j (omega arith) }
headed R law j y (s ∷ []) h = record { carrier = 0; rest = []; is = sym (append-nil _); below = zero_below_limit R law j (omega arith) }
headed R law j y (s ∷ t ∷ zs) h =
    let l : j < R.steps = omega arith in
    record {
      carrier = (first_pass R j s t).0;
      rest = closed R (suc j) (first_pass R j s t).1 zs;
      is = refl;
      below = below_limit R law j (first_pass R j s t).0 l (mod-lt _ (omega (arith, law.carrier_low j l)));
    }

-- The numbers of two groups, from their blocks.
earlier_is : (R : Ranges) (lead j w a b : ℕ) → earlier R (in_blocks lead R.base j w ++ a ∷ b ∷ []) ≡ w
earlier_is R zero zero w a b = refl
earlier_is R (suc l) zero w a b = div-add-mod' w R.base
earlier_is R lead (suc j) w a b = div-add-mod' w R.base

later_is : (R : Ranges) (xs : List ℕ) (a b : ℕ) → later R (xs ++ a ∷ b ∷ []) ≡ b * R.base + a
later_is R xs a b = grind (arith, common_steps)

two_long : (R : Ranges) → R.lead ≤ 1 → (j w w' : ℕ) →
    length (in_blocks R.lead R.base j w ++ in_blocks R.lead R.base (suc j) w') ≡ start R (j + 2) - start R j
two_long R h j w w' =
    let a = group_length R.lead R.base j w in
    let all = length-append (in_blocks R.lead R.base j w) (in_blocks R.lead R.base (suc j) w') in
    grind (arith, a.0, a.1)

-- The part that groups i and i + 1 are, where the pair i is (s, t) and the symbols xs stand before it.
module _ (R : Ranges) (law : Lawful R) (i y s t : ℕ) (xs rest : List ℕ) (long : length xs ≡ 2 * i) (fits : 2 * i + length rest + 2 ≤ 2 * R.steps) where
  abbrev r : ℕ
  r = (first_pass R i s t).0

  abbrev here : ℕ
  here = last_spill R 0 y xs

  abbrev next : ℕ
  next = (first_pass R i s t).1

  abbrev pub head : Headed R (suc i) next rest
  head = headed R law (suc i) next rest (omega arith)

  abbrev w : ℕ
  w = r * R.spill i + here

  abbrev w' : ℕ
  w' = head.carrier * R.spill (suc i) + next

  pub pair_part : part R (closed R 0 y (xs ++ s ∷ t ∷ rest)) i ≡ in_blocks R.lead R.base i w ++ (w' % R.base) ∷ (w' / R.base) ∷ []
  pair_part =
      let front = first_length R law.lead_high y xs in
      let two = in_blocks R.lead R.base i w ++ in_blocks R.lead R.base (suc i) w' in
      let is : closed R 0 y (xs ++ s ∷ t ∷ rest) ≡ groups R 0 y xs ++ (two ++ head.rest) =
      cc (closed_append R 0 i y xs (s ∷ t ∷ rest) (omega arith) (omega arith), head.is, append_assoc (group R i r here) (group R (suc i) head.carrier next) head.rest) in
      rw is (
      rw (drop_at (groups R 0 y xs) (two ++ head.rest) (start R i) (omega arith))
      (take_at two head.rest (start R (i + 2) - start R i) (two_long R law.lead_high i w w'))
      )

  pub earlier_number : earlier R (part R (closed R 0 y (xs ++ s ∷ t ∷ rest)) i) ≡ w
  earlier_number = ap (earlier R) pair_part ∙ earlier_is R R.lead i w (w' % R.base) (w' / R.base)

  pub later_number : later R (part R (closed R 0 y (xs ++ s ∷ t ∷ rest)) i) ≡ w'
  later_number = ap (later R) pair_part ∙ later_is R (in_blocks R.lead R.base i w) (w' % R.base) (w' / R.base) ∙ div-add-mod' w' R.base
