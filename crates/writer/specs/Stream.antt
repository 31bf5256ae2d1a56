-- The stream of a recording.
use Rattle.std.specs.Prelude.{ℕ, zero, suc, ◌+◌, ◌-◌, ◌*◌, ◌/◌, ◌%◌, ◌<◌, ◌≤◌, List, [], ◌∷◌, ◌++◌, length, drop, slice_index}
use Rattle.std.specs.List.{AllByRecursion}
use Rattle.schedule.specs.Ranges.{Ranges, alphabet, end_mark, longest}

-- A valid recording: every block below B, at most N of them.
pub record Valid (R : Ranges) (blocks : List ℕ) : Type 0 where
  pub below : AllByRecursion (λ x. x < R.base) blocks
  pub few : length blocks ≤ longest R

-- The end marks of n blocks: a second follows if the count of symbols, less the lead, would otherwise be odd.
abbrev pub marks : Ranges → ℕ → List ℕ
marks R n = elim ((n + 1 - R.lead) % 2) [ zero ↦ end_mark R ∷ [] | suc _ ↦ end_mark R ∷ end_mark R ∷ [] ]

abbrev pub symbols : Ranges → List ℕ → List ℕ
symbols R blocks = blocks ++ marks R (length blocks)

-- y(0): the first symbol with lead 1, and 0 with lead 0.
abbrev pub first_spill : ℕ → List ℕ → ℕ
first_spill zero ss = 0
first_spill (suc _) ss = slice_index ss 0

-- The first pass on pair j: the carrier r(j) and the spill y(j + 1).
abbrev pub first_pass : Ranges → ℕ → ℕ → ℕ → ℕ × ℕ
first_pass R j s t = ((t * alphabet R + s) % R.carrier j, (t * alphabet R + s) / R.carrier j)

-- A group's number in blocks: two, low block first, but one for group 0 with lead 0.
abbrev pub in_blocks : (lead base j w : ℕ) → List ℕ
in_blocks zero base zero w = w ∷ []
in_blocks (suc _) base zero w = (w % base) ∷ (w / base) ∷ []
in_blocks lead base (suc j) w = (w % base) ∷ (w / base) ∷ []

-- The second pass: group j of the carrier r and the spill y.
abbrev pub group : Ranges → ℕ → ℕ → ℕ → List ℕ
group R j r y = in_blocks R.lead R.base j (r * R.spill j + y)

-- The groups of the pairs j, j + 1, .. that these symbols form, where y(j) is y. A symbol without a partner is in none.
abbrev pub groups : Ranges → ℕ → ℕ → List ℕ → List ℕ
groups R j y [] = []
groups R j y (s ∷ []) = []
groups R j y (s ∷ t ∷ ss) = group R j (first_pass R j s t).0 y ++ groups R (suc j) (first_pass R j s t).1 ss

-- The same, and after the last pair the closing group, whose carrier is 0.
abbrev pub closed : Ranges → ℕ → ℕ → List ℕ → List ℕ
closed R j y [] = group R j 0 y
closed R j y (s ∷ []) = group R j 0 y
closed R j y (s ∷ t ∷ ss) = group R j (first_pass R j s t).0 y ++ closed R (suc j) (first_pass R j s t).1 ss

-- What is written as soon as these symbols are known.
abbrev pub complete : Ranges → List ℕ → List ℕ
complete R ss = groups R 0 (first_spill R.lead ss) (drop R.lead ss)

-- The stream of a recording.
abbrev pub stream : Ranges → List ℕ → List ℕ
stream R blocks = closed R 0 (first_spill R.lead (symbols R blocks)) (drop R.lead (symbols R blocks))
