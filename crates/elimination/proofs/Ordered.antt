-- Lists in which each element is related to every later one. Assumes nothing.
use Rattle.std.proofs.Common.{◌≡◌, ℕ, zero, suc, ◌+◌, ◌<◌, ◌≤◌, Bool, true, false, eqb, List, [], ◌∷◌, ◌++◌, map, length, get_or, take, filter, refl, ap, ◌∙◌, subst, ⊎_elim, arith}
use Rattle.std.specs.List.{range_with_len, AllByRecursion as All}
use Rattle.std.proofs.ByRecursion.{All-append, All-get_or, all_kept_by, All-map, All-weaker}
use Rattle.std.proofs.lemmas.Bool.{cases_Bool, cond_both, cond-true, cond-false, eq-eqb, ne_eqb, lt-ltb, and_from, not_from_false}
use Rattle.network.specs.Permutations.{met, position, Distinct}
use Rattle.network.proofs.Permuting.{met_taken}

abbrev pub Ordered : {X : Type 0} → (X → X → Type 0) → List X → Type 0
Ordered R [] = Unit {0}
Ordered R (x ∷ xs) = All (R x) xs × Ordered R xs

module _ {X : Type 0} (R : X → X → Type 0) where
  pub ordered_append : (xs ys : List X) → Ordered R xs → Ordered R ys → All (λ x. All (R x) ys) xs → Ordered R (xs ++ ys)
  ordered_append [] ys left right across = right
  ordered_append (x ∷ xs) ys left right across = (All-append (R x) xs ys left.0 across.0, ordered_append xs ys left.1 right across.1)

  pub ordered_kept : (p : X → Bool) (xs : List X) → Ordered R xs → Ordered R (filter p xs)
  ordered_kept p [] o = tt
  ordered_kept p (x ∷ xs) o =
      let rest = ordered_kept p xs o.1 in
      cond_both (p x) (x ∷ filter p xs) (filter p xs) (Ordered R) (λ _. (all_kept_by p (R x) xs o.0, rest)) (λ _. rest)

  pub ordered_map : {Y : Type 0} (f : Y → X) (ys : List Y) → Ordered (λ a b. R (f a) (f b)) ys → Ordered R (map f ys)
  ordered_map f [] o = tt
  ordered_map f (y ∷ ys) o = (All-map (R (f y)) f ys o.0, ordered_map f ys o.1)

  pub ordered_get_or : (xs : List X) (d : X) → Ordered R xs → (s t : ℕ) → s < t → t < length xs → R (get_or xs s d) (get_or xs t d)
  ordered_get_or [] d o s t less inside = absurd (omega arith)
  ordered_get_or (x ∷ xs) d o s zero less inside = absurd (omega arith)
  ordered_get_or (x ∷ xs) d o zero (suc t) less inside = All-get_or (R x) xs t d (omega arith) o.0
  ordered_get_or (x ∷ xs) d o (suc s) (suc t) less inside = ordered_get_or xs d o.1 s t (omega arith) (omega arith)

  -- over elements of which P holds, another relation
  pub ordered_among : (P : X → Type 0) (S : X → X → Type 0) → ((x y : X) → P x → P y → R x y → S x y) → (xs : List X) → All P xs → Ordered R xs → Ordered S xs
  ordered_among P S among [] all o = tt
  ordered_among P S among (x ∷ xs) all o = (later xs all.1 o.0, ordered_among P S among xs all.1 o.1)
    where
      later : (ys : List X) → All P ys → All (R x) ys → All (S x) ys
      later [] every related = tt
      later (y ∷ ys) every related = (among x y all.0 every.0 related.0, later ys every.1 related.1)

-- ---- numbers
counting_from : (n a b : ℕ) → a ≤ b → All (λ i. a ≤ i) (range_with_len b n)
counting_from zero a b le = tt
counting_from (suc n) a b le = (le, counting_from n a (b + 1) (omega arith))

pub ordered_counting : (n a : ℕ) → Ordered ◌<◌ (range_with_len a n)
ordered_counting zero a = tt
ordered_counting (suc n) a =
    (All-weaker (λ i. a + 1 ≤ i) (λ i. a < i) (λ i h. omega arith) (range_with_len (a + 1) n) (counting_from n (a + 1) (a + 1) (omega arith)), ordered_counting n (a + 1))

-- what a test keeps of the numbers below n rises
pub kept_rises : (p : ℕ → Bool) (n : ℕ) → Ordered ◌<◌ (filter p (range_with_len 0 n))
kept_rises p n = ordered_kept ◌<◌ p (range_with_len 0 n) (ordered_counting n 0)

-- where nothing is related to itself, each stands at its position
pub ordered_position : (R : ℕ → ℕ → Type 0) → ((x : ℕ) → R x x → ⊥) → (xs : List ℕ) → Ordered R xs → (s : ℕ) → s < length xs → position xs (get_or xs s 0) ≡ s
ordered_position R never [] o s inside = absurd (omega arith)
ordered_position R never (x ∷ xs) o zero inside = cond-true (eqb x x) 0 (suc (position xs x)) (eq-eqb x x refl)
ordered_position R never (x ∷ xs) o (suc s) inside =
    let y = get_or xs s 0 in
    let related : R x y = All-get_or (R x) xs s 0 (omega arith) o.0 in
    cond-false (eqb x y) 0 (suc (position xs y)) (ne_eqb x y (λ same. never y (subst (λ (z : ℕ). R z y) same related)))
    ∙ ap suc (ordered_position R never xs o.1 s (omega arith))

-- then, if all are below the length, none comes twice
pub ordered_distinct : (R : ℕ → ℕ → Type 0) → ((x : ℕ) → R x x → ⊥) → (xs : List ℕ) → Ordered R xs → All (λ x. x < length xs) xs → Distinct xs
ordered_distinct R never xs o below i inside =
    and_from _ _ (lt-ltb (get_or xs i 0) (length xs) (All-get_or (λ x. x < length xs) xs i 0 inside below))
    (not_from_false (met (get_or xs i 0) (take i xs)) (⊎_elim
    (λ (on : met (get_or xs i 0) (take i xs) ≡ true).
    let at = met_taken xs i (get_or xs i 0) on in
    absurd (never (get_or xs i 0) (subst (λ (y : ℕ). R y (get_or xs i 0)) at.2 (ordered_get_or R xs 0 o at.0 i at.1 inside))))
    (λ (off : met (get_or xs i 0) (take i xs) ≡ false). off)
    (cases_Bool (met (get_or xs i 0) (take i xs)))))
