use Rattle.std.proofs.Common.{◌≡◌, ℕ, ◌+◌, ◌-◌, ◌≤◌, not, ltb, List, ◌++◌, map, length, take, drop, vec_items, filter, refl, sym, subst, ap, ◌∙◌, arith}
use Rattle.std.proofs.lemmas.List.{drop_at, length-append, length-drop, take_all}
use Rattle.std.proofs.lemmas.List.Filters.{length-filter_both}
use Rattle.network.specs.declared.entries.Entry.{Entry}
use Rattle.elimination.specs.Storage.{Stored}
use Rattle.symbolic.specs.Columns.{bounds}
use Rattle.symbolic.specs.Marks.{marks_in}
use Rattle.symbolic.proofs.AddedColumn.{added}
use Rattle.symbolic.proofs.patterns.Filled.add_column.Goals as goal

-- how many of some entries stand above row k
abbrev above : ℕ → List Entry → ℕ
above k xs = length (filter (λ entry. ltb entry.row k) xs)

-- xs was added from start on: those of xs above row k are counted there, and lie among all
added_above : (old xs entries : List Entry) (k start count : ℕ) → entries ≡ old ++ xs → start ≡ length old → count ≡ above k (take (length entries - start) (drop start entries)) → (count ≡ above k xs) × (start + count ≤ length entries)
added_above old xs entries k start count is begins counted =
    let all : count ≡ above k xs = counted ∙ ap (above k) (take_all _ _ (omega (arith, length-drop start entries)) ∙ (λ d. drop (begins d) (is d)) ∙ drop_at old xs (length old) refl) in
    let few = length-filter_both (λ entry. ltb entry.row k) (λ entry. not (ltb entry.row k)) (λ entry. refl) xs in
    (all, omega (arith, ap length is ∙ length-append old xs, few, all, begins))

pub overflow_add-start : goal.overflow_add-start
overflow_add-start c =
    let lent = c.deref.ensures.value in
    let above = added_above _ _ c.deref.result.now c.len-k.result c.len-start.result _ (lent ∙ c.in_ok-gather.ensures.items) (c.len-start.ensures ∙ c.args.self.now.entries.ok.0) c.entries_above.ensures in
    omega (arith, above.1, ap length lent, c.gather.new.entries.ok.0, c.gather.new.entries.small)

pub invariant_of-push : goal.invariant_of-push
invariant_of-push c =
    let lent = c.deref.ensures.value in
    let above = added_above _ _ c.deref.result.now c.len-k.result c.len-start.result _ (lent ∙ c.in_ok-gather.ensures.items) (c.len-start.ensures ∙ c.args.self.now.entries.ok.0) c.entries_above.ensures in
    record { above = omega arith; below = omega (arith, above.1, ap length lent, c.len.ensures, c.gather.new.entries.ok.0) }

pub returns : goal.returns
returns c =
    let old = c.args.self.now in
    let entries = c.gather.new.entries in
    let k = c.len-k.result in
    let begins : c.len-start.result ≡ length (vec_items old.entries) = c.len-start.ensures ∙ old.entries.ok.0 in
    let above = added_above _ _ c.deref.result.now k c.len-start.result _ (c.deref.ensures.value ∙ c.in_ok-gather.ensures.items) begins c.entries_above.ensures in
    let same = c.len-k.ensures in
    λ f n marks_are so_far.
    subst (λ (k : ℕ). Stored f n (k + 1) (vec_items entries) (map bounds (vec_items c.push.new.self))) same
    (added f n k c.args.marks.now (omega (arith, c.requires.inside, same)) (marks_are ∙ ap (marks_in f n) (sym same)) (vec_items old.entries) (vec_items entries) (vec_items old.columns) (vec_items c.push.new.self) _
    c.in_ok-gather.ensures.items
    c.in_ok-push.ensures.items
    begins
    (λ d. begins d + above.0 d)
    (c.len.ensures ∙ entries.ok.0)
    (subst (λ (k : ℕ). Stored f n k (vec_items old.entries) (map bounds (vec_items old.columns))) (sym same) so_far))
