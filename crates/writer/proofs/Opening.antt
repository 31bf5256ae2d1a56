-- A recording that has taken valid blocks is open: its spill and its waiting block are in range.
use Rattle.std.proofs.Common.{◌≡◌, ℕ, suc, ◌+◌, ◌-◌, ◌/◌, ◌<◌, ◌≤◌, List, [], ◌∷◌, ◌++◌, length, get_or, drop, sym, refl, ap, subst, zero-le, arith}
use lib.Seq.{drop-nil}
use Rattle.std.specs.List.{AllByRecursion}
use Rattle.std.proofs.lemmas.List.{length-append, length-drop}
use Rattle.schedule.proofs.Each.{each_append, each_drop, each_weaker}
use Rattle.schedule.specs.Ranges.{Ranges, Lawful, alphabet, longest}
use Rattle.schedule.proofs.Sizes.{by_lead}
use Rattle.writer.specs.Stream.{Valid, first_spill, first_pass, groups, complete}
use Rattle.writer.specs.Holding.{last_spill, unpaired, spill_left, Holds, Open, opened}
use Rattle.writer.specs.declared.held.Held.{Held}
use Rattle.writer.proofs.Inverse.{spill_below}

module _ (R : Ranges) (law : Lawful R) where
  abbrev Symbols : List ℕ → Type 0
  Symbols = AllByRecursion (λ s. s < alphabet R)

  pub last_spill_below : (j y k : ℕ) (ss : List ℕ) → Symbols ss → y < R.spill j → k ≡ j + length ss / 2 → k ≤ R.steps →
      last_spill R j y ss < R.spill k
  last_spill_below j y k [] b h e l = subst (λ (i : ℕ). y < R.spill i) (omega arith) h
  last_spill_below j y k (s ∷ []) b h e l = subst (λ (i : ℕ). y < R.spill i) (omega arith) h
  last_spill_below j y k (s ∷ t ∷ ss) b h e l =
      last_spill_below (suc j) (first_pass R j s t).1 k ss b.1.1
      (spill_below R law j s t (omega arith) b.0 b.1.0) (omega arith) l

  head_below : (ss : List ℕ) → Symbols ss → get_or ss 0 0 < alphabet R
  head_below [] b = omega arith
  head_below (s ∷ ss) b = b.0

  pub first_below : (ss : List ℕ) → Symbols ss → first_spill R.lead ss < R.spill 0
  first_below ss b =
      by_lead (λ l. first_spill l ss < R.spill 0) R law
      (λ e. omega (arith, law.first_spill_alone e)) (λ e. omega (arith, law.first_spill_lead e, head_below ss b))

  unpaired_below : (ss : List ℕ) → AllByRecursion (λ x. x < R.base) ss → unpaired ss < R.base
  unpaired_below [] b = omega arith
  unpaired_below (s ∷ []) b = b.0
  unpaired_below (s ∷ t ∷ ss) b = unpaired_below ss b.1.1

  pub blocks_are_symbols : (blocks : List ℕ) → AllByRecursion (λ x. x < R.base) blocks → Symbols blocks
  blocks_are_symbols = each_weaker (λ x. x < R.base) (λ s. s < alphabet R) (λ x h. omega arith)

  pub open_from : (blocks : List ℕ) (h : Held) → Valid R blocks → Holds R blocks h → Open R blocks h
  open_from blocks h valid holds =
      let d = drop R.lead blocks in
      let ss = blocks_are_symbols blocks valid.below in
      record {
        valid = valid;
        holds = holds;
        spill_below =
            rw holds.spill
            (last_spill_below 0 (first_spill R.lead blocks) ((length blocks - R.lead) / 2) d
            (each_drop (λ s. s < alphabet R) R.lead blocks ss)
            (first_below blocks ss)
            (omega (arith, length-drop R.lead blocks))
            (omega arith));
        waiting_below =
            rw holds.waiting
            (unpaired_below d (each_drop (λ x. x < R.base) R.lead blocks valid.below));
      }

  -- No symbols: no group is written, and nothing has gone over.
  pub none_written : complete R [] ≡ []
  none_written = ap (groups R 0 (first_spill R.lead [])) (drop-nil R.lead)

  pub no_spill_yet : spill_left R [] ≡ 0
  no_spill_yet = by_lead (λ l. last_spill R 0 (first_spill l []) (drop l []) ≡ 0) R law (λ e. refl) (λ e. refl)

  pub opened_open : Open R [] opened
  opened_open =
      open_from [] opened (record { below = tt; few = zero-le })
      (record { count = refl; spill = sym no_spill_yet; waiting = ap unpaired (sym (drop-nil R.lead)) })

  pub valid_append : (blocks piece : List ℕ) → Valid R blocks → AllByRecursion (λ x. x < R.base) piece → length blocks + length piece ≤ longest R →
      Valid R (blocks ++ piece)
  valid_append blocks piece valid below few =
      record { below = each_append (λ x. x < R.base) blocks piece valid.below below; few = omega (arith, length-append blocks piece) }
