use Rattle.std.proofs.Common.{◌≡◌, ◌<◌, ◌≤◌, ◌^◌, ℕ, length, sym, subst, arith, slice_index_or}
use Rattle.std.proofs.lemmas.Option.{get_or_from_slice_get}
use Rattle.mh_grammar.specs.declared.types.Symbol.{Symbol}
use Rattle.mh_grammar.specs.declared.types.Symbol.TheVariants.{T, N}
use Rattle.mh_grammar.specs.declared.types.Production.{Production}
use Rattle.mh_grammar.specs.Plain.{PlainGrammar, plain_of, IsInRange, IsSymbolBelow, IsProductionBelow}
use Rattle.mh_grammar.proofs.worklist.mark_all.Goals as goal

-- A symbol that is in range for some count of tokens is in range for a higher one.
wider : (a b n : ℕ) (X : Symbol) → a ≤ b → IsSymbolBelow a n X → IsSymbolBelow b n X
wider a b n (T t) l s = omega (arith, l, s)
wider a b n (N k) l s = s

-- A production that is read from a grammar in range is in range.
in_range : (g : PlainGrammar) → IsInRange g → (k : ℕ) (p : Production) → k < length g.productions → slice_index_or g.productions k p ≡ p → IsProductionBelow (2 ^ 16) g.nonterminals p
in_range g r k p l is =
    let q : IsProductionBelow g.tokens g.nonterminals p = subst (IsProductionBelow g.tokens g.nonterminals) is (r.productions k p l) in
    record { lhs = q.lhs; rhs = λ i d w. wider g.tokens (2 ^ 16) g.nonterminals (slice_index_or p.rhs i d) (omega (arith, r.tokens)) (q.rhs i d w) }

pub mark_left_side-requires : goal.mark_left_side-requires
mark_left_side-requires c =
    let ps = c.args.grammar.now.productions in
    let p = c.in-Some-get.production.now in
    subst (λ n. IsProductionBelow (2 ^ 16) n p) (sym c.loop-place.invariant.len)
    (in_range (plain_of c.args.grammar.now) c.requires.range c.in-Some.place p c.in-Some-get.ensures.within
    (get_or_from_slice_get ps c.in-Some.place p p (sym c.in-Some-get.ensures.value)))

pub index-requires : goal.index-requires
index-requires c =
    let ps = c.args.grammar.now.productions in
    let p = c.in-Some-get.production.now in
    let q = in_range (plain_of c.args.grammar.now) c.requires.range c.in-Some.place p c.in-Some-get.ensures.within
    (get_or_from_slice_get ps c.in-Some.place p p (sym c.in-Some-get.ensures.value)) in
    omega (arith, q.lhs, c.from.ensures, c.in_ok-users.ensures)
