-- What a reader gives and has left, call by call. Assumes nothing.
use Rattle.std.proofs.Common.{◌≡◌, ℕ, zero, suc, ◌+◌, ◌-◌, ◌*◌, ◌/◌, ◌<◌, ◌≤◌, true, false, leb, List, [], ◌∷◌, map, length, Some, None, Option, sym, refl, ap, ◌∙◌, subst, ⊎_elim, arith}
use Rattle.std.proofs.lemmas.Bool.{cond-true, cond-false}
use Rattle.std.proofs.lemmas.Bool.Decides.{leb_tells}
use Rattle.std.specs.Iterator.{YieldsFirst, MakesProgress, item_count}
use Rattle.std.specs.List.{range_with_len}
use Rattle.std.specs.Option.{MatchOption}
use Rattle.network.specs.declared.numbers.Reader.{Reader}
use Rattle.network.specs.Reading.{numbers_left}
use Rattle.network.specs.Words.{word, words, words_from, word_read, past}

-- an iterator that shows what is left comes nearer to its end with each item
pub progress : {S A : Type 0} (can : S → Type 0) (rest : S → List A) (s t : S) (r : Option A) → can t → YieldsFirst rest s r t → MakesProgress can (item_count rest) s r t
progress can rest s t None may gives = record { on = λ _. tt; keeps = tt; rests = λ _. tt }
progress can rest s t (Some x) may gives = record { on = λ _. (may, tt, omega (arith, ap length gives)); keeps = may; rests = λ _. tt }

-- a list by index, from one index later on
pub shifted : {X : Type 0} (f g : ℕ → X) (a b n : ℕ) → ((i : ℕ) → f (a + i) ≡ g (b + i)) → map f (range_with_len a n) ≡ map g (range_with_len b n)
shifted f g a b zero same = refl
shifted f g a b (suc n) same =
    let here : f a ≡ g b = ap f (omega arith) ∙ same 0 ∙ ap g (omega arith) in
    let later = shifted f g (a + 1) (b + 1) n (λ i. ap f (omega arith) ∙ same (i + 1) ∙ ap g (omega arith)) in
    λ d. here d ∷ later d

words_next : (bytes : List ℕ) (p n : ℕ) → words bytes p (suc n) ≡ word bytes p ∷ words bytes (p + 2) n
words_next bytes p n =
    let here : word bytes (p + 2 * 0) ≡ word bytes p = ap (word bytes) (omega arith) in
    let later = shifted (λ t. word bytes (p + 2 * t)) (λ t. word bytes (p + 2 + 2 * t)) 1 0 n (λ i. ap (word bytes) (omega arith)) in
    λ d. here d ∷ later d

-- where two bytes are left
pub from_there : (bytes : List ℕ) (p : ℕ) → p + 2 ≤ length bytes → words_from bytes p ≡ word bytes p ∷ words_from bytes (p + 2)
from_there bytes p h =
    let count : (length bytes - p) / 2 ≡ suc ((length bytes - (p + 2)) / 2) = omega arith in
    ap (words bytes p) count ∙ words_next bytes p _

-- where they are not
pub from_end : (bytes : List ℕ) (p : ℕ) → length bytes < p + 2 → words_from bytes p ≡ []
from_end bytes p h =
    let count : (length bytes - p) / 2 ≡ 0 = omega arith in
    ap (words bytes p) count

abbrev Gives : List ℕ → List ℕ → ℕ → Option ℕ → ℕ → Type 0
Gives bytes bytes2 p r q = MatchOption r ((words_from bytes p ≡ []) × (words_from bytes2 q ≡ [])) (λ x. words_from bytes p ≡ x ∷ words_from bytes2 q)

gives : (bytes : List ℕ) (p : ℕ) → Gives bytes bytes p (word_read bytes p) (past bytes p)
gives bytes p =
    ⊎_elim
    (λ (there : (leb (p + 2) (length bytes) ≡ true) × (p + 2 ≤ length bytes)).
    subst (λ (r : Option ℕ). Gives bytes bytes p r (past bytes p)) (sym (cond-true _ (Some (word bytes p)) None there.0))
    (subst (λ (q : ℕ). Gives bytes bytes p (Some (word bytes p)) q) (sym (cond-true _ (p + 2) p there.0)) (from_there bytes p there.1)))
    (λ (end : (leb (p + 2) (length bytes) ≡ false) × (length bytes < p + 2)).
    subst (λ (r : Option ℕ). Gives bytes bytes p r (past bytes p)) (sym (cond-false _ (Some (word bytes p)) None end.0))
    (subst (λ (q : ℕ). Gives bytes bytes p None q) (sym (cond-false _ (p + 2) p end.0)) (from_end bytes p end.1, from_end bytes p end.1)))
    (leb_tells (p + 2) (length bytes))

-- a read gives the first of what is left and leaves the others
pub reads_first : (old new : Reader) (r : Option ℕ) → r ≡ word_read old.bytes.now old.at → new.at ≡ past old.bytes.now old.at → new.bytes.now ≡ old.bytes.now → YieldsFirst numbers_left old r new
reads_first old new r value position same =
    subst (λ (bytes : List ℕ). Gives old.bytes.now bytes old.at r new.at) (sym same)
    (subst (λ (q : ℕ). Gives old.bytes.now old.bytes.now old.at r q) (sym position)
    (subst (λ (o : Option ℕ). Gives old.bytes.now old.bytes.now old.at o (past old.bytes.now old.at)) (sym value) (gives old.bytes.now old.at)))

-- the same of a number that was read, a form that the search takes
pub first_left : (old new : Reader) (x : ℕ) → Some x ≡ word_read old.bytes.now old.at → new.at ≡ past old.bytes.now old.at → new.bytes.now ≡ old.bytes.now → numbers_left old ≡ x ∷ numbers_left new
first_left old new x value position same = reads_first old new (Some x) value position same
