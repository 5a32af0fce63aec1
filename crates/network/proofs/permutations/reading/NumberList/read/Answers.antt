use Rattle.std.proofs.Common.{◌≡◌, ℕ, ◌≤◌, length, Ok, Vec, Global, vec_items, sym, ap, subst, arith}
use Rattle.std.proofs.lemmas.Iterator.{YieldsList, IsCollectResult, items_from_collect}
use Rattle.std.specs.Iterator.{YieldsFirst}
use Rattle.std.proofs.lemmas.Iterator.Consumers.{YieldsList-from_first}
use Rattle.std.specs.declared.alloc.AllocError.{AllocError}
use Rattle.network.specs.declared.numbers.Reader.{Reader}
use Rattle.network.specs.declared.permutations.reading.NumberList.{NumberList}
use Rattle.network.specs.Permutations.{Distinct, Inverts}
use Rattle.network.specs.Reading.{numbers_left}
use Rattle.network.specs.Words.{words_from}
use Rattle.network.proofs.OrderSteps.{length_from}
use Rattle.network.proofs.Permuting.{kept}
use Rattle.network.proofs.permutations.reading.NumberList.read.Goals as goal

-- what is collected from a reader of the list
module _ (list : NumberList) (reader : Reader) (starts : reader.bytes.now ≡ list.bytes.now) (at : reader.at ≡ 0) where
  gives : YieldsList (YieldsFirst numbers_left) (λ x. x) reader (words_from list.bytes.now 0)
  gives = YieldsList-from_first (λ x. x) numbers_left _ (λ d. words_from (starts d) (at d))

  collected : (read : Vec ℕ Global) → IsCollectResult {E = AllocError} (YieldsFirst numbers_left) reader (Ok read) → vec_items read ≡ words_from list.bytes.now 0
  collected read ran = items_from_collect {E = AllocError} (Ok read) ran gives

pub invariant_of-result : goal.invariant_of-result
invariant_of-result c =
    let list = c.args.self.now in
    let numbers = c.in_ok-numbers.numbers in
    let positions = c.in_ok-positions.positions in
    let same = collected list c.new.result c.new.ensures.bytes c.new.ensures.at numbers c.in_ok-numbers.ensures.ran in
    let few : length numbers.items ≤ 512 = omega (arith, ap length same, length_from list.bytes.now, list.few) in
    let k = kept numbers.items positions.items _ _ numbers.ok.0 positions.ok.0 few (subst Distinct (sym same) list.distinct) (subst (Inverts positions.items) c.deref.ensures.value c.in_ok-positions.ensures) in
    record { small = k.small; long = k.long; below = k.below; stands = k.stands; back = k.back; told = k.told }
