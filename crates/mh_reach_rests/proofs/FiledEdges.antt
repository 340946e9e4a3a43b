-- Lemmas on the rows of the states from which edges lead to a state.
use Rattle.std.proofs.Common.{◌≡◌, ℕ, ◌+◌, inl, inr, List, [], ◌∷◌, ◌++◌, length, Some, refl, arith, ◌∙◌}
use Rattle.std.specs.Global.{Vec}
use Rattle.std.proofs.lemmas.List.Elements.{Contains-append_cases}
use Rattle.mh_grammar.specs.declared.edges.Edge.{Edge}
use Rattle.mh_grammar.proofs.Lists.{below_next, contains_none, contains_one}
use Rattle.mh_tables_core.specs.Table.{TableData, edge_of, state_at}
use Rattle.mh_facts.specs.code.Queues.{AddsToRow, row_of}
use Rattle.mh_facts.proofs.Edges.{edge_there}
use Rattle.mh_reach_rests.specs.code.RestRules.{AreSourcesBelow, FilesEdges}

pub files_none : (s : ℕ) (rows : List (Vec ℕ)) → FilesEdges [] s rows rows
files_none s rows = record { len = refl; kept = λ j i there. there; all = λ e there. absurd (contains_none e there); only = λ j i there. inl there }

pub files_one : (e : Edge) (s : ℕ) (old new : List (Vec ℕ)) → AddsToRow old new e.target s → FilesEdges (e ∷ []) s old new
files_one e s old new h = record {
  len = h.rows;
  kept = h.kept;
  all = λ o there. (let is : e ≡ o = contains_one e o there in rw (← is) h.added);
  only = λ j i there. elim (h.only j i there) [ inl was ↦ inl was | inr is ↦ inr is.1 ];
}

pub files_more : (es : List Edge) (e : Edge) (s : ℕ) (old mid new : List (Vec ℕ)) → FilesEdges es s old mid → FilesEdges (e ∷ []) s mid new → FilesEdges (es ++ e ∷ []) s old new
files_more es e s old mid new h more = record {
  len = more.len ∙ h.len;
  kept = λ j i there. more.kept j i (h.kept j i there);
  all = λ o there. elim (Contains-append_cases es (e ∷ []) o there) [
    | inl before ↦ more.kept o.target s (h.all o before)
    | inr last ↦ more.all o last
  ];
  only = λ j i there. elim (more.only j i there) [ inl was ↦ h.only j i was | inr is ↦ inr is ];
}

pub sources_none : (t : TableData) (rows : List (Vec ℕ)) → length rows ≡ length t.states → ((n : ℕ) → row_of rows n ≡ []) → AreSourcesBelow t 0 rows
sources_none t rows long none = record {
  len = long;
  all = λ s j x lt edge. absurd (omega (arith, lt));
  known = λ j s there. absurd (contains_none s (rw (none j) at there));
}

pub sources_next : (t : TableData) (n : ℕ) (old new : List (Vec ℕ)) → AreSourcesBelow t n old → FilesEdges (state_at t n).edges n old new → AreSourcesBelow t (n + 1) new
sources_next t n old new h files = record {
  len = files.len ∙ h.len;
  all = λ s j x lt edge. elim (below_next s n lt) [
    | inl before ↦ files.kept j s (h.all s j x before edge)
    | inr is ↦ (let here : edge_of t n x ≡ Some j = rw is at edge in rw is (files.all (record { symbol = x; target = j }) (edge_there t n x j here)))
  ];
  known = λ j s there. elim (files.only j s there) [
    | inl was ↦ (let l = h.known j s was in omega (arith, l))
    | inr is ↦ omega (arith, is)
  ];
}
