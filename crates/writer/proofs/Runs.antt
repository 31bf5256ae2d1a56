-- Every list of calls has one run, where every call has one answer.
use Rattle.std.proofs.Common.{◌≡◌, Bool, true, false, List, [], ◌∷◌, sym, refl, ap, ◌∙◌, subst, inl, inr, ⊎_elim}
use Rattle.writer.specs.Runs.{Runs, EndedAtLast, Follows, ExactlyOne}

-- Whatever is asked of a good state has an answer; calls that ask the same and meet their promises on it are the same; and
-- what one that is not the last leaves is good, and always the same.
module _ {S C A : Type 0} (Meets : S → C → S → Type 0) (last : C → Bool) (asked : C → A) (Good : S → Type 0)
    (answer : (s : S) (a : A) → Good s → (c : C) × (s' : S) × (asked c ≡ a) × Meets s c s')
    (stays : (s : S) (c : C) (s' : S) → Good s → Meets s c s' → last c ≡ false → Good s')
    (once : (s : S) (c d : C) (s' s'' : S) → Good s → asked c ≡ asked d → Meets s c s' → Meets s d s'' → (c ≡ d) × (last c ≡ false → s' ≡ s'')) where
  abbrev From : S → List A → List C → Type 0
  From s = Follows (Runs Meets last s) (EndedAtLast last) asked

  -- Every list has a run from every good state.
  follow : (asks : List A) (s : S) → Good s → (calls : List C) × From s asks calls
  follow [] s g = ([], record { runs = tt; in_order = ([], refl); to_the_end = inr refl })
  follow (a ∷ asks) s g = let x = answer s a g in go x.0 x.1 x.2 x.3 (last x.0) refl (follow asks)
    where
      go : (c : C) (s' : S) → asked c ≡ a → Meets s c s' → (b : Bool) → last c ≡ b → ((s' : S) → Good s' → (calls : List C) × From s' asks calls) →
          (calls : List C) × From s (a ∷ asks) calls
      go c s' is m true l more = (c ∷ [], record { runs = (s', m, rw l refl); in_order = (asks, cc); to_the_end = inl (rw (l, EndedAtLast) tt) })
      go c s' is m false l more =
          let later = more s' (stays s c s' g m l) in (
            c ∷ later.0,
            record {
              runs = (s', m, rw l later.1.runs);
              in_order = (later.1.in_order.0, cc later.1.in_order.1);
              to_the_end = ⊎_elim (λ e. inl (rw (l, EndedAtLast) e)) (λ e. inr (cc)) later.1.to_the_end;
            },
          )

  -- A list is not answered by no call and by some.
  none_and_some : (s : S) (asks : List A) (c : C) (calls : List C) → From s asks [] → From s asks (c ∷ calls) → ⊥
  none_and_some s asks c calls p q =
      elim p.to_the_end [ inl e ↦ e | inr e ↦ cc q.in_order.1 ]

  -- The rest of a run follows the rest of its list.
  rest : (s : S) (a : A) (asks : List A) (c : C) (calls : List C) → last c ≡ false → (p : From s (a ∷ asks) (c ∷ calls)) → From p.runs.0 asks calls
  rest s a asks c calls l p =
      record {
        runs = rw l at p.runs.2;
        in_order = (p.in_order.0, cc p.in_order.1);
        to_the_end = ⊎_elim (λ e. inl (rw (l, EndedAtLast) at e)) (λ e. inr (cc)) p.to_the_end;
      }

  -- And no other.
  follow_once : (asks : List A) (s : S) → Good s → (one other : List C) → From s asks one → From s asks other → one ≡ other
  follow_once asks s g [] [] p q = refl
  follow_once asks s g [] (d ∷ ds) p q = absurd (none_and_some s asks d ds p q)
  follow_once asks s g (c ∷ cs) [] p q = absurd (none_and_some s asks c cs q p)
  follow_once [] s g (c ∷ cs) (d ∷ ds) p q = absurd (cc p.in_order.1)
  follow_once (a ∷ asks) s g (c ∷ cs) (d ∷ ds) p q =
      let o = once s c d p.runs.0 q.runs.0 g (cc (p.in_order.1, q.in_order.1)) p.runs.1 q.runs.1 in
      cc (o.0, go (last c) refl (ap last (sym o.0)) o.1 (follow_once asks))
    where
      go : (b : Bool) → last c ≡ b → last d ≡ last c → (last c ≡ false → p.runs.0 ≡ q.runs.0) →
          ((s' : S) → Good s' → (one other : List C) → From s' asks one → From s' asks other → one ≡ other) → cs ≡ ds
      go true l k left again = (rw l at p.runs.2) ∙ sym (rw (k ∙ l) at q.runs.2)
      go false l k left again =
          again p.runs.0 (stays s c p.runs.0 g p.runs.1 l) cs ds (rest s a asks c cs l p)
          (subst (λ (t : S). From t asks ds) (sym (left l)) (rest s a asks d ds (k ∙ l) q))

  pub exactly_one : (start : S) → Good start → ExactlyOne (From start)
  exactly_one start g asks = (follow asks start g, follow_once asks start g)
