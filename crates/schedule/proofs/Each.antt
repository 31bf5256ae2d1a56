-- What holds of each element of a list: the library's lemmas, which speak of `All`, for the same fact by recursion.
use Rattle.std.proofs.Common.{ℕ, ◌<◌, List, ◌++◌, length, get_or, take, drop}
use Rattle.std.specs.List.{AllByRecursion}
use Rattle.std.proofs.lemmas.List.Elements.{All-from_recursion as from, recursion_from_All as to, All-get_or, All-append, All-take, All-drop, All-weaker}

module _ {X : Type 0} (P : X → Type 0) where
  pub each_at : (xs : List X) (i : ℕ) (d : X) → i < length xs → AllByRecursion P xs → P (get_or xs i d)
  each_at xs i d h a = All-get_or P xs i d h (from P xs a)

  pub each_append : (xs ys : List X) → AllByRecursion P xs → AllByRecursion P ys → AllByRecursion P (xs ++ ys)
  each_append xs ys a b = to P (xs ++ ys) (All-append P xs ys (from P xs a) (from P ys b))

  pub each_take : (n : ℕ) (xs : List X) → AllByRecursion P xs → AllByRecursion P (take n xs)
  each_take n xs a = to P (take n xs) (All-take P n xs (from P xs a))

  pub each_drop : (n : ℕ) (xs : List X) → AllByRecursion P xs → AllByRecursion P (drop n xs)
  each_drop n xs a = to P (drop n xs) (All-drop P n xs (from P xs a))

  pub each_weaker : (Q : X → Type 0) → ((x : X) → P x → Q x) → (xs : List X) → AllByRecursion P xs → AllByRecursion Q xs
  each_weaker Q f xs a = to Q xs (All-weaker P Q f xs (from P xs a))
