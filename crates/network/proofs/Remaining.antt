-- A loop over an iterator that gives f 0, f 1 and so on, up to n. Assumes nothing.
use Rattle.std.proofs.Common.{◌≡◌, ℕ, suc, ◌+◌, ◌-◌, ◌<◌, ◌≤◌, ◌^◌, List, [], ◌∷◌, map, length, sym, ap, ◌∙◌, subst, arith}
use Rattle.std.proofs.lemmas.List.FromFn.{length-map-range_with_len}
use Rattle.std.specs.List.{range_with_len}

-- it has given t of them, and these are left
pub record Turned {X : Type 0} (f : ℕ → X) (n t : ℕ) (left : List X) : Type 0 where
  pub few : t ≤ n
  pub items : left ≡ map f (range_with_len t (n - t))

pub none_turned : {X : Type 0} (f : ℕ → X) (n t : ℕ) (left : List X) → t ≡ 0 → left ≡ map f (range_with_len 0 n) → Turned f n t left
none_turned f n t left start all =
    let whole : n - 0 ≡ n = omega arith in
    subst (λ (k : ℕ). Turned f n k left) (sym start) record { few = omega arith; items = all ∙ ap (λ (k : ℕ). map f (range_with_len 0 k)) (sym whole) }

module _ {X : Type 0} (f : ℕ → X) (n t : ℕ) (left : List X) (so_far : Turned f n t left) where
  how_many : length left ≡ n - t
  how_many = ap length so_far.items ∙ length-map-range_with_len f t (n - t)

  pub turns_fit : n ≤ 8192 → t + length left < 2 ^ 64
  turns_fit limit = omega (arith, so_far.few, how_many)

  pub turned_all : left ≡ [] → n ≤ t
  turned_all none = let l : length left ≡ 0 = ap length none in omega (arith, how_many)

  -- the next of them
  module _ (x : X) (rest : List X) (some : left ≡ x ∷ rest) where
    pub turn_more : t < n
    turn_more = let l : length left ≡ suc (length rest) = ap length some in omega (arith, how_many)

    both : x ∷ rest ≡ f t ∷ map f (range_with_len (t + 1) (n - (t + 1)))
    both = let e : n - t ≡ suc (n - (t + 1)) = omega (arith, turn_more) in sym some ∙ so_far.items ∙ ap (λ (k : ℕ). map f (range_with_len t k)) e

    pub turn_is : x ≡ f t
    turn_is = let same = both in cc

    pub turned_more : (j : ℕ) → j ≡ t + 1 → Turned f n j rest
    turned_more j after =
        let same = both in
        let items : rest ≡ map f (range_with_len (t + 1) (n - (t + 1))) = cc in
        subst (λ (k : ℕ). Turned f n k rest) (sym after) record { few = omega (arith, turn_more); items = items }
