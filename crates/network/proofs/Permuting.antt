-- Numbers that are below n and not met before. Assumes nothing.
use Rattle.std.proofs.Common.{◌≡◌, ℕ, zero, suc, ◌+◌, ◌<◌, ◌≤◌, Bool, true, false, not, ◌&&◌, ◌||◌, eqb, ltb, List, [], ◌∷◌, ◌++◌, length, get_or, take, set, replicate, vec_items, vec_len, sym, refl, ap, ◌∙◌, subst, ⊎_elim, add-one, arith, below_more}
use Rattle.std.proofs.lemmas.List.{take_more, take_all, length-take, get_or-take, length-set, length-replicate, get_or-replicate, get_or-set_same, get_or-set_other}
use Rattle.std.proofs.lemmas.Bool.{cases_eq, cases_Bool, eq-eqb, ne_eqb, or_left, or_right, and_left, and_parts, not-true, both_ways, ltb-true, eqb-true, cond-true, cond-false}
use Rattle.network.specs.declared.permutations.Permutation.{Permutation}
use Rattle.network.specs.Permutations.{met, in_turn, position, Distinct, Inverts}

pub or_false : (a b : Bool) → b ≡ false → a ≡ (a || b)
or_false true b e = refl
or_false false b e = sym e

met_push : (v x : ℕ) (xs : List ℕ) → met v (xs ++ x ∷ []) ≡ (met v xs || eqb x v)
met_push v x [] = elim (eqb x v) as (λ b. (b || false) ≡ (false || b)) [ true ↦ refl | false ↦ refl ]
met_push v x (y ∷ xs) = elim (eqb y v) as (λ b. (b || met v (xs ++ x ∷ [])) ≡ ((b || met v xs) || eqb x v)) [ true ↦ refl | false ↦ met_push v x xs ]

pub met_more : (v i : ℕ) (xs : List ℕ) → i < length xs → met v (take (i + 1) xs) ≡ (met v (take i xs) || eqb (get_or xs i 0) v)
met_more v i xs h = ap (met v) (take_more xs i 0 h) ∙ met_push v (get_or xs i 0) (take i xs)

-- n marks, of the first i of xs
abbrev pub Marks : ℕ → List Bool → List ℕ → ℕ → Type 0
Marks n seen xs i = (length seen ≡ n) × ((v : ℕ) → v < n → get_or seen v false ≡ met v (take i xs))

pub marks_none : (n : ℕ) (xs : List ℕ) → n ≤ 512 → Marks n (take n (replicate 512 false)) xs 0
marks_none n xs few = (
  omega (arith, length-take n (replicate 512 false), length-replicate 512 false),
  λ v h. get_or-take n (replicate 512 false) v false h ∙ get_or-replicate 512 v false false (omega arith),
)

marked : (n : ℕ) (seen : List Bool) (xs : List ℕ) (i x v : ℕ) → x ≡ get_or xs i 0 → v < n → Marks n seen xs i → get_or (set seen x true) v false ≡ (met v (take i xs) || eqb (get_or xs i 0) v)
marked n seen xs i x v is inside marks =
    ⊎_elim
    (λ (same : v ≡ x).
    subst (λ (w : ℕ). get_or (set seen x true) w false ≡ true) (sym same) (get_or-set_same seen x true false (omega (arith, marks.0)))
    ∙ sym (or_right (met v (take i xs)) (eqb (get_or xs i 0) v) (eq-eqb (get_or xs i 0) v (sym is ∙ sym same))))
    (λ (apart : v ≡ x → ⊥).
    get_or-set_other seen x v true false apart ∙ marks.1 v inside
    ∙ or_false (met v (take i xs)) (eqb (get_or xs i 0) v) (ne_eqb (get_or xs i 0) v (λ e. apart (sym e ∙ sym is))))
    (cases_eq v x)

pub marks_more : (n : ℕ) (seen : List Bool) (xs : List ℕ) (i x : ℕ) → i < length xs → x ≡ get_or xs i 0 → Marks n seen xs i → Marks n (set seen x true) xs (i + 1)
marks_more n seen xs i x h is marks = (
  length-set seen x true ∙ marks.0,
  λ v inside. marked n seen xs i x v is inside marks ∙ sym (met_more v i xs h),
)

-- whether the mark of x is there and is not set
abbrev pub unmarked : List Bool → ℕ → Bool
unmarked seen x = ltb x (length seen) && not (get_or seen x false)

-- the test by marks is the test by what stands before
pub new_is : (n : ℕ) (seen : List Bool) (xs : List ℕ) (i x : ℕ) → x ≡ get_or xs i 0 → Marks n seen xs i → unmarked seen x ≡ in_turn n xs i
new_is n seen xs i x is marks =
    ⊎_elim
    (λ (small : ltb x n ≡ true).
    (λ d. ltb x (marks.0 d) && not ((marks.1 x (ltb-true x n small) ∙ ap (λ (y : ℕ). met y (take i xs)) is) d))
    ∙ ap (λ (y : ℕ). ltb y n && not (met (get_or xs i 0) (take i xs))) is)
    (λ (large : ltb x n ≡ false).
    and_left _ _ (ap (ltb x) marks.0 ∙ large) ∙ sym (and_left _ _ (ap (λ (y : ℕ). ltb y n) (sym is) ∙ large)))
    (cases_Bool (ltb x n))

-- ---- what stands once
pub met_here : (xs : List ℕ) (i j v : ℕ) → j < i → j < length xs → get_or xs j 0 ≡ v → met v (take i xs) ≡ true
met_here [] i j v below inside is = absurd (omega arith)
met_here (x ∷ xs) zero j v below inside is = absurd (omega arith)
met_here (x ∷ xs) (suc i) zero v below inside is = or_left (eqb x v) (met v (take i xs)) (eq-eqb x v is)
met_here (x ∷ xs) (suc i) (suc j) v below inside is = or_right (eqb x v) (met v (take i xs)) (met_here xs i j v (omega arith) (omega arith) is)

pub distinct : (xs : List ℕ) → Distinct xs → (i j : ℕ) → j < i → i < length xs → get_or xs j 0 ≡ get_or xs i 0 → ⊥
distinct xs once i j below inside same =
    let two = and_parts (ltb (get_or xs i 0) (length xs)) (not (met (get_or xs i 0) (take i xs))) (once i inside) in
    both_ways _ (not-true _ two.1) (met_here xs i j (get_or xs i 0) below (omega arith) same)

pub below_length : (xs : List ℕ) → Distinct xs → (i : ℕ) → i < length xs → get_or xs i 0 < length xs
below_length xs once i inside = ltb-true _ _ (and_parts _ _ (once i inside)).0

pub inverts_more : (ps xs : List ℕ) (i x : ℕ) → Distinct xs → i < length xs → x ≡ get_or xs i 0 → length ps ≡ length xs → ((j : ℕ) → j < i → get_or ps (get_or xs j 0) 0 ≡ j) → (j : ℕ) → j < i + 1 → get_or (set ps x i) (get_or xs j 0) 0 ≡ j
inverts_more ps xs i x once inside is long so_far =
    below_more _ i
    (λ j below. get_or-set_other ps x (get_or xs j 0) i 0 (λ same. distinct xs once i j below inside (same ∙ is)) ∙ so_far j below)
    (subst (λ (y : ℕ). get_or (set ps x i) y 0 ≡ i) is (get_or-set_same ps x i 0 (subst (λ (y : ℕ). y < length ps) (sym is) (omega (arith, below_length xs once i inside)))))

-- ---- n numbers below n that differ are all of them
abbrev one : Bool → ℕ
one true = 1
one false = 0

-- how many of 0 to m - 1 are met in xs
how_many : ℕ → List ℕ → ℕ
how_many zero xs = 0
how_many (suc m) xs = one (met m xs) + how_many m xs

one_at_most : (b : Bool) → one b ≤ 1
one_at_most true = omega arith
one_at_most false = omega arith

how_many_le : (m : ℕ) (xs : List ℕ) → how_many m xs ≤ m
unfolding how_many
how_many_le zero xs = omega arith
how_many_le (suc m) xs = omega (arith, how_many_le m xs, one_at_most (met m xs))

one_is : (b : Bool) → one b ≡ 1 → b ≡ true
one_is true e = refl
one_is false e = absurd (omega arith)

all_of_them : (m : ℕ) (xs : List ℕ) → how_many m xs ≡ m → (v : ℕ) → v < m → met v xs ≡ true
unfolding how_many
all_of_them zero xs full v below = absurd (omega arith)
all_of_them (suc m) xs full v below =
    let le = how_many_le m xs in
    let few = one_at_most (met m xs) in
    ⊎_elim
    (λ (here : v ≡ m). subst (λ (w : ℕ). met w xs ≡ true) (sym here) (one_is (met m xs) (omega arith)))
    (λ (apart : v ≡ m → ⊥). all_of_them m xs (omega arith) v (omega arith))
    (cases_eq v m)

met_other : (v x : ℕ) (xs : List ℕ) → (x ≡ v → ⊥) → met v (xs ++ x ∷ []) ≡ met v xs
met_other v x xs apart = met_push v x xs ∙ sym (or_false (met v xs) (eqb x v) (ne_eqb x v apart))

how_many_past : (m x : ℕ) (xs : List ℕ) → m ≤ x → how_many m (xs ++ x ∷ []) ≡ how_many m xs
unfolding how_many
how_many_past zero x xs past = refl
how_many_past (suc m) x xs past =
    let here = met_other m x xs (λ e. omega arith) in
    let rest = how_many_past m x xs (omega arith) in
    λ k. one (here k) + rest k

how_many_push : (m x : ℕ) (xs : List ℕ) → met x xs ≡ false → x < m → how_many m (xs ++ x ∷ []) ≡ how_many m xs + 1
unfolding how_many
how_many_push zero x xs new below = absurd (omega arith)
how_many_push (suc m) x xs new below =
    ⊎_elim
    (λ (here : x ≡ m).
    let rest = how_many_past m x xs (omega arith) in
    let now' : met m (xs ++ x ∷ []) ≡ true = met_push m x xs ∙ or_right (met m xs) (eqb x m) (eq-eqb x m here) in
    let before : met m xs ≡ false = subst (λ (w : ℕ). met w xs ≡ false) here new in
    omega (arith, rest, ap one now', ap one before))
    (λ (apart : x ≡ m → ⊥).
    let rest = how_many_push m x xs new (omega arith) in
    omega (arith, rest, ap one (met_other m x xs apart)))
    (cases_eq x m)

none : (m : ℕ) → how_many m [] ≡ 0
unfolding how_many
none zero = refl
none (suc m) = omega (arith, none m)

how_many_taken : (xs : List ℕ) → Distinct xs → (i : ℕ) → i ≤ length xs → how_many (length xs) (take i xs) ≡ i
how_many_taken xs once zero inside = none (length xs)
how_many_taken xs once (suc i) inside =
    let two = and_parts (ltb (get_or xs i 0) (length xs)) (not (met (get_or xs i 0) (take i xs))) (once i (omega arith)) in
    subst (λ (n : ℕ). how_many (length xs) (take n xs) ≡ n) (add-one i)
    (ap (how_many (length xs)) (take_more xs i 0 (omega arith))
    ∙ how_many_push (length xs) (get_or xs i 0) (take i xs) (not-true _ two.1) (ltb-true _ _ two.0)
    ∙ ap (λ (k : ℕ). k + 1) (how_many_taken xs once i (omega arith)))

found : (xs : List ℕ) (v : ℕ) → met v xs ≡ true → (position xs v < length xs) × (get_or xs (position xs v) 0 ≡ v)
found [] v e = absurd (both_ways false refl e)
found (x ∷ xs) v e =
    ⊎_elim
    (λ (here : eqb x v ≡ true).
    let at : position (x ∷ xs) v ≡ 0 = cond-true (eqb x v) 0 (suc (position xs v)) here in
    (omega arith, ap (λ (i : ℕ). get_or (x ∷ xs) i 0) at ∙ eqb-true x v here))
    (λ (apart : eqb x v ≡ false).
    let at : position (x ∷ xs) v ≡ suc (position xs v) = cond-false (eqb x v) 0 (suc (position xs v)) apart in
    let rest = found xs v (sym (ap (λ (b : Bool). b || met v xs) apart) ∙ e) in
    (omega (arith, rest.0), ap (λ (i : ℕ). get_or (x ∷ xs) i 0) at ∙ rest.1))
    (cases_Bool (eqb x v))

-- what is met among the first i stands at one of them
pub met_taken : (xs : List ℕ) (i v : ℕ) → met v (take i xs) ≡ true → (j : ℕ) × (j < i) × (get_or xs j 0 ≡ v)
met_taken xs i v e =
    let at = found (take i xs) v e in
    let short : position (take i xs) v < i = omega (arith, at.0, length-take i xs) in
    (position (take i xs) v, short, sym (get_or-take i xs (position (take i xs) v) 0 short) ∙ at.1)

pub stands : (xs : List ℕ) → Distinct xs → (v : ℕ) → v < length xs → (position xs v < length xs) × (get_or xs (position xs v) 0 ≡ v)
stands xs once v below =
    let all = how_many_taken xs once (length xs) (omega arith) in
    let whole = take_all (length xs) xs (omega arith) in
    found xs v (all_of_them (length xs) xs (ap (how_many (length xs)) (sym whole) ∙ all) v below)

-- ---- a permutation with the index of each number
position_told : (xs ps : List ℕ) → Distinct xs → Inverts ps xs → (v : ℕ) → v < length xs → get_or ps v 0 ≡ position xs v
position_told xs ps once inverts v below =
    let at = stands xs once v below in
    subst (λ (w : ℕ). get_or ps w 0 ≡ position xs v) at.1 (inverts.1 (position xs v) at.0)

-- what a `Permutation` promises of itself, of its numbers and their positions
pub record Kept (xs ps : List ℕ) (len len' : ℕ) : Type 0 where
  pub small : len ≤ 512
  pub long : len' ≡ len
  pub below : (i : ℕ) → i < len → get_or xs i 0 < len
  pub stands : (v : ℕ) → v < len → (position xs v < len) × (get_or xs (position xs v) 0 ≡ v)
  pub back : (i : ℕ) → i < len → position xs (get_or xs i 0) ≡ i
  pub told : (v : ℕ) → v < len → get_or ps v 0 ≡ position xs v

pub kept : (xs ps : List ℕ) (len len' : ℕ) → len ≡ length xs → len' ≡ length ps → length xs ≤ 512 → Distinct xs → Inverts ps xs → Kept xs ps len len'
kept xs ps len len' is is' few once inverts =
    let told = position_told xs ps once inverts in
    let below = below_length xs once in
    let back : (i : ℕ) → i < length xs → position xs (get_or xs i 0) ≡ i = λ i inside. sym (told (get_or xs i 0) (below i inside)) ∙ inverts.1 i inside in
    let at : Kept xs ps (length xs) (length ps) =
    record { small = few; long = inverts.0; below = below; stands = stands xs once; back = back; told = told } in
    subst (λ (l : ℕ). Kept xs ps l len') (sym is) (subst (λ (l : ℕ). Kept xs ps (length xs) l) (sym is') at)

-- a number stands at i exactly if its position is i
pub position_is : (p : Permutation) (v i : ℕ) → v < vec_len p.numbers → i < vec_len p.numbers → eqb (position (vec_items p.numbers) v) i ≡ eqb v (get_or (vec_items p.numbers) i 0)
position_is p v i below inside =
    let xs = vec_items p.numbers in
    ⊎_elim
    (λ (same : position xs v ≡ i). eq-eqb _ _ same ∙ sym (eq-eqb _ _ (sym (p.stands v below).1 ∙ ap (λ (k : ℕ). get_or xs k 0) same)))
    (λ (apart : position xs v ≡ i → ⊥). ne_eqb _ _ apart ∙ sym (ne_eqb _ _ (λ same. apart (ap (position xs) same ∙ p.back i inside))))
    (cases_eq (position xs v) i)
