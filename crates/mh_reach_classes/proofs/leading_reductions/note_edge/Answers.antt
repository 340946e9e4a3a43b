use Rattle.std.proofs.Common.{ℕ, ◌≡◌, sym, ◌∙◌}
use Rattle.mh_grammar.specs.declared.types.Symbol.TheVariants.{N}
use Rattle.mh_grammar.specs.Plain.{IsProductionFor}
use Rattle.mh_facts.specs.code.ByLeftSide.{productions_at}
use Rattle.mh_reach_classes.specs.code.Reductions.{IsReductionByAny, IsReductionOverEdge}
use Rattle.mh_facts.proofs.ListGains.{collects_by}
use Rattle.mh_reach_classes.proofs.leading_reductions.note_edge.Goals as goal

one_nonterminal : (a b : ℕ) → N a ≡ N b → a ≡ b
one_nonterminal a b e = cc

pub note_each-requires-clause-productions : goal.note_each-requires-clause-productions
note_each-requires-clause-productions c p h = (c.requires.left.only c.in-N.nonterminal p (rw c.productions_of-productions.ensures at h)).known

pub returns-in_ok-note_each-in-N : goal.returns-in_ok-note_each-in-N
returns-in_ok-note_each-in-N c =
    let t = c.args.table.now in
    let n = c.in-N.nonterminal in
    collects_by (IsReductionByAny t c.args.from c.args.edge.target (productions_at c.args.left.now n)) (IsReductionOverEdge t c.args.from c.args.edge) c.args.past.now.keys c.note_each.new.past.keys
    (λ r h. (n, c.in-N.is, (h.0, c.requires.left.only n h.0 h.1, h.2)))
    (λ r h. (let e = one_nonterminal h.0 n (sym h.1 ∙ c.in-N.is) in let deep = h.2 in let known : IsProductionFor t.grammar n deep.0 = rw e at deep.1 in (deep.0, c.requires.left.all n deep.0 known, deep.2)))
    (rw c.productions_of-productions.ensures at c.in_ok-note_each-in-N.ensures)
