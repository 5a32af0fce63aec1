use Rattle.std.proofs.Common.{◌≡◌, ℕ, suc, ◌+◌, ◌<◌, List, [], ◌∷◌, map, length, get_or, Some, vec_items, vec_len, Option, sym, refl, ap, ◌∙◌, subst, arith, rules}
use Rattle.std.specs.List.{cons_option, filter_map, range_with_len}
use Rattle.std.specs.Option.{option_map}
use Rattle.std.specs.Result.{IfOk}
use Rattle.std.proofs.lemmas.Iterator.{YieldsList-from_slice, items_from_collect}
use Rattle.std.proofs.lemmas.Iterator.Consumers.{YieldsList-from_filter_map}
use Rattle.network.specs.declared.entries.Entry.{Entry}
use Rattle.network.specs.declared.networks.Network.{Network}
use Rattle.network.specs.Entries.{origin}
use Rattle.network.specs.NetworkSheet.{pattern}
use Rattle.network.specs.OrderSheet.{orders}
use Rattle.network.specs.Permuted.{place_in}
use Rattle.network.proofs.Marking.{placed_in}
use Rattle.elimination.specs.Plans.{entry_place, stored_place}
use Rattle.symbolic.specs.Filling.{filled_of}
use Rattle.symbolic.proofs.matrices.FilledMatrix.find_places.Goals as goal

-- where each entry gives a value, all values are kept
kept : (g : Entry → Option ℕ) (h : ℕ → ℕ) (xs : List Entry) (a : ℕ) → ((t : ℕ) → t < length xs → g (get_or xs t origin) ≡ Some (h (a + t))) → filter_map g xs ≡ map h (range_with_len a (length xs))
kept g h [] a gives = refl
kept g h (x ∷ xs) a gives =
    let here : g x ≡ Some (h a) = gives 0 (omega arith) ∙ ap (λ (t : ℕ). Some (h t)) (omega arith) in
    let rest = kept g h xs (a + 1) (λ t below. gives (suc t) (omega arith) ∙ ap (λ (k : ℕ). Some (h k)) (omega arith)) in
    λ d. cons_option (here d) (rest d)

pub returns : goal.returns
returns c =
    let m = c.args.self.now.matrix in
    let entries = vec_items m.network.entries in
    let place : Entry → ℕ = λ x. stored_place (filled_of m) m.network.n x.row x.column in
    let told : Entry → Option ℕ = λ x. option_map place (place_in (vec_len m.order.rows.numbers) (orders m.order) x) in
    let all = entry_place (pattern m.network) (orders m.order) in
    let lent : c.entries.result.now ≡ entries = c.entries.ensures ∙ ap (λ (w : Network). vec_items w.entries) c.network.ensures in
    subst (λ (xs : List ℕ). IfOk c.collect.result (λ v. vec_items v ≡ xs))
    (kept told all entries 0 (λ t below. ap (option_map place) (placed_in m entries t refl below) ∙ ap (λ (k : ℕ). Some (all k)) (omega arith)) ∙ ap (λ (n : ℕ). map all (range_with_len 0 n)) (sym m.network.entries.ok.0))
    (items_from_collect c.collect.result c.collect.ensures.ran (YieldsList-from_filter_map _ told (YieldsList-from_slice entries (cc)) c.filter_map.ensures.closure (λ x r q k. search rules)))
