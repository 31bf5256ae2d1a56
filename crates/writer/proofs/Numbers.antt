-- How many blocks a group has.
use Rattle.std.proofs.Common.{◌≡◌, ℕ, zero, suc, ◌+◌, ◌≤◌, length, refl, arith}
use Rattle.writer.specs.Stream.{in_blocks}

-- A group has one block where it stands first with lead 0, and else two.
pub group_length : (lead base j w : ℕ) → (j + lead ≡ 0 → length (in_blocks lead base j w) ≡ 1) × (1 ≤ j + lead → length (in_blocks lead base j w) ≡ 2)
group_length zero base zero w = (λ e. refl, λ h. absurd (omega arith))
group_length (suc l) base zero w = (λ e. absurd (omega arith), λ h. refl)
group_length lead base (suc j) w = (λ e. absurd (omega arith), λ h. refl)
