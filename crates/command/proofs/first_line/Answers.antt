use Rattle.std.proofs.Common.{◌≡◌, ℕ, ◌+◌, ◌-◌, ◌<◌, List, length, get_or, take, drop, arith, rules}
use Rattle.std.proofs.lemmas.List.Elements.{recursion_from_All, All-from_get_or}
use Rattle.std.proofs.lemmas.Grind.{common_steps}
use Rattle.command.specs.Lines.{Cut, line_feed}
use Rattle.command.proofs.first_line.Goals as goal

-- A text is cut at its first line feed.
cut_at : (text : List ℕ) (i : ℕ) → i < length text → get_or text i 0 ≡ line_feed → ((k : ℕ) → k < i → get_or text k 0 ≡ line_feed → ⊥) →
    Cut text (take i text) (take (length text - (i + 1)) (drop (i + 1) text))
cut_at text i within here before = record {
  whole = grind (arith, common_steps);
  one_line = recursion_from_All (λ c. c ≡ line_feed → ⊥) (take i text)
      (All-from_get_or (λ c. c ≡ line_feed → ⊥) (take i text) 0 (λ k h e. grind (arith, common_steps)));
}

pub returns : goal.returns
returns c = cut_at c.args.text.now c.in_ok-end.end (search rules) (search rules) (search rules)
