-- Fields that are read number by number.
use Rattle.std.proofs.Common.{◌≡◌, ℕ, ◌-◌, ◌<◌, ◌↔◌, List, [], ◌∷◌, ◌++◌, length, get_or, take, drop, Some, None, Option, sym, refl, ap, ◌∙◌, subst, append_assoc, arith}
use Rattle.std.specs.Option.{option_map}
use Rattle.std.proofs.lemmas.List.{append-nil}
use Rattle.std.proofs.lemmas.Slice.{first_rest}
use Rattle.command.specs.Lines.{space, Fields, Says}

-- After these numbers, the rest of the fields is left to be read.
abbrev pub Left : List ℕ → List ℕ → List ℕ → Type 0
Left fields done rest = (ns : List ℕ) → Fields ns fields ↔ ((more : List ℕ) × (ns ≡ done ++ more) × Fields more rest)

-- The answer is the numbers of the fields.
abbrev pub Reads : Option (List ℕ) → List ℕ → Type 0
Reads answer fields = (ns : List ℕ) → (answer ≡ Some ns) ↔ Fields ns fields

none_is_not_some : (ns : List ℕ) → None ≡ Some ns → ⊥
none_is_not_some ns e = let z : ◌≡◌ {A = ℕ} 0 1 = cc in omega arith

pub left_after : (fields done rest after : List ℕ) (n : ℕ) → Left fields done rest →
    ((ns : List ℕ) → Fields ns rest ↔ ((more : List ℕ) × (ns ≡ n ∷ more) × Fields more after)) →
    Left fields (done ++ n ∷ []) after
left_after fields done rest after n left first ns = (
  (λ f. let p = (left ns).0 f in
      let q = (first p.0).0 p.2 in
      (q.0, p.1 ∙ ap (λ (ms : List ℕ). done ++ ms) q.1 ∙ sym (append_assoc done (n ∷ []) q.0), q.2)),
  (λ p. (left ns).1
      (n ∷ p.0, p.1 ∙ append_assoc done (n ∷ []) p.0, (first (n ∷ p.0)).1 (p.0, refl, p.2))),
)

pub read_none : (fields done rest : List ℕ) → Left fields done rest → ((ns : List ℕ) → Fields ns rest → ⊥) → Reads None fields
read_none fields done rest left never ns =
    (λ e. absurd (none_is_not_some ns e), λ f. let p = (left ns).0 f in absurd (never p.0 p.2))

pub read_all : (fields done rest : List ℕ) → Left fields done rest → rest ≡ [] → Reads (Some done) fields
read_all fields done rest left end ns = (
  (λ e. let same : done ≡ ns = cc in (left ns).1 ([], sym same ∙ sym (append-nil done), end)),
  (λ f. let p = (left ns).0 f in ap Some (sym (p.1 ∙ ap (λ (ms : List ℕ). done ++ ms) (nothing p.0 p.2) ∙ append-nil done))),
)
  where
    nothing : (ms : List ℕ) → Fields ms rest → ms ≡ []
    nothing [] f = refl
    nothing (m ∷ ms) f = absurd (omega (arith, ap length (sym end ∙ f.4)))

pub not_fields : (rest : List ℕ) → 0 < length rest → (get_or rest 0 0 ≡ space → ⊥) → (ns : List ℕ) → Fields ns rest → ⊥
not_fields rest some other [] f = omega (arith, ap length f)
not_fields rest some other (n ∷ ns) f = other (ap (λ (bs : List ℕ). get_or bs 0 0) f.4)

-- A text by its first byte and the part behind it.
pub first_is : (text : List ℕ) (b : ℕ) → 0 < length text → get_or text 0 0 ≡ b → text ≡ b ∷ take (length text - 1) (drop 1 text)
first_is text b some e = first_rest text 0 some ∙ ap (λ (x : ℕ). x ∷ take (length text - 1) (drop 1 text)) e

-- A line is its letter and its fields.
module _ (line fields : List ℕ) (l : ℕ) (e : line ≡ l ∷ fields) where
  fields_of : (letter : ℕ) (ns : List ℕ) → Says letter ns line → Fields ns fields × (l ≡ letter)
  fields_of letter ns s =
      let f : fields ≡ s.0 = ap (drop 1) (sym e ∙ s.2) in
      (subst (Fields ns) (sym f) s.1, ap (λ (bs : List ℕ). get_or bs 0 0) (sym e ∙ s.2))

  -- The letter beside the numbers that were read, if any.
  pub says : (answer : Option (List ℕ)) → Reads answer fields →
      (letter : ℕ) (ns : List ℕ) → (option_map {U = ℕ × List ℕ} (λ found. (l, found)) answer ≡ Some (letter, ns)) ↔ Says letter ns line
  says (Some found) reads letter ns = (
    (λ q. let same : ◌≡◌ {A = ℕ × List ℕ} (l, found) (letter, ns) = cc in (
      fields,
      (reads ns).0 (ap (λ (p : ℕ × List ℕ). Some p.1) same),
      e ∙ ap (λ (p : ℕ × List ℕ). p.0 ∷ fields) same,
    )),
    (λ s. let p = fields_of letter ns s in let b = (reads ns).1 p.0 in let a = p.1 in cc),
  )
  says None reads letter ns = (
    (λ q. absurd (let z : ◌≡◌ {A = ℕ} 0 1 = cc in omega arith)),
    (λ s. absurd (none_is_not_some ns ((reads ns).1 (fields_of letter ns s).0))),
  )
