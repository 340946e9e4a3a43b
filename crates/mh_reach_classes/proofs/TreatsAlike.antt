-- Lemmas on classes whose tokens are treated alike by all reductions, and on the rows of classes by state.
use Rattle.std.proofs.Common.{◌≡◌, ℕ, zero, suc, ◌<◌, ◌≤◌, ◌+◌, inl, inr, List, [], ◌∷◌, ◌++◌, length, Some, refl, ap, sym, arith, ◌∙◌, length-append}
use Rattle.std.specs.Prelude.{slice_get, Bool, true, false, nat_eq, IsTrue, ◌↔◌}
use Rattle.std.proofs.lemmas.Grind.{common_steps}
use Rattle.std.specs.List.{Contains}
use Rattle.std.specs.Global.{Vec}
use Rattle.std.proofs.lemmas.Bool.{cases_lt}
use Rattle.std.proofs.lemmas.Option.{slice_get-get_or}
use Rattle.mh_tables_core.specs.Table.{TableData}
use Rattle.mh_tables_core.specs.Facts.{Facts}
use Rattle.mh_tables_core.specs.Run.{Reduces, run_move_of}
use Rattle.mh_tables_core.proofs.SymbolsInRange.{edge_source}
use Rattle.mh_tables_core.proofs.Reductions.{reduces_from_move}
use Rattle.mh_grammar.specs.declared.types.Symbol.TheVariants.{N}
use Rattle.mh_grammar.specs.Plain.{lhs_of}
use Rattle.mh_facts.specs.code.BestFirst.{RepresentativesAgree}
use Rattle.mh_reach_classes.specs.declared.leading_reductions.Reduction.{Reduction}
use Rattle.mh_facts.specs.declared.classes.TokenClass.{TokenClass}
use Rattle.mh_facts.specs.declared.classes.TokenClasses.{TokenClasses}
use Rattle.mh_facts.specs.code.Queues.{row_of}
use Rattle.mh_facts.specs.code.TokenClasses.{rep_of}
use Rattle.mh_reach_classes.specs.code.Reductions.{AreAllReductions}
use Rattle.mh_reach_classes.specs.code.ClassRows.{IsClassRow, IsPartition, TreatsAlike, TreatsAllAlike, are_treated_alike}
use Rattle.mh_reach_classes.proofs.IsPartition.{AreRowsBelow}
use Rattle.mh_reach_classes.proofs.RowOfClasses.{row_higher}

-- The first n reductions treat the tokens of each class alike.
abbrev pub FirstTreatAlike : TableData → TokenClasses → List Reduction → ℕ → Type 0
FirstTreatAlike t c past n = (i : ℕ) (r : Reduction) → i < n → slice_get past i ≡ Some r → TreatsAllAlike t c r t.grammar.tokens

get_of : {X : Type 0} (xs : List X) (x : X) → Contains xs x → (i : ℕ) × (i < length xs) × (slice_get xs i ≡ Some x)
get_of xs x h = (h.0, h.1, slice_get-get_or xs h.0 x h.1 ∙ ap Some h.2)

pub alike_next : (t : TableData) (c : TokenClasses) (past : List Reduction) (n : ℕ) (r : Reduction) → slice_get past n ≡ Some r → TreatsAllAlike t c r t.grammar.tokens → FirstTreatAlike t c past n → FirstTreatAlike t c past (n + 1)
alike_next t c past n r e a h i q lt is = elim (cases_lt i n) [
  | inl less ↦ h i q less is
  | inr ge ↦ (let at : i ≡ n = omega arith in let there : slice_get past n ≡ Some q = rw at at is in let same : q ≡ r = (let y : Some q ≡ Some r = sym there ∙ e in cc) in rw same a)
]

pub alike_all : (t : TableData) (f : Facts t) (c : TokenClasses) (past : List Reduction) → IsPartition t c → AreAllReductions t past → FirstTreatAlike t c past (length past) → RepresentativesAgree t (rep_of c)
alike_all t f c past part is h = record {
  to_representative = λ s q e g z end edge lt move. (
      let o = f.ordinary e q (reduces_from_move t e (z ∷ []) q move) in
      let i = get_of past (record { end = e; production = q; target = g }) (is.all s q e g (edge_source t s g (N (lhs_of t.grammar q)) edge) o.0 o.1 end edge) in
      (h i.0 (record { end = e; production = q; target = g }) i.1 i.2 z lt).to_representative move);
  from_representative = λ s q e g z end edge lt move. (
      let o = f.ordinary e q (reduces_from_move t e (rep_of c g z ∷ []) q move) in
      let i = get_of past (record { end = e; production = q; target = g }) (is.all s q e g (edge_source t s g (N (lhs_of t.grammar q)) edge) o.0 o.1 end edge) in
      (h i.0 (record { end = e; production = q; target = g }) i.1 i.2 z lt).from_representative move);
}

row_front : {X : Type 0} (rows : List (Vec X)) (v : Vec X) (n : ℕ) → n < length rows → row_of (rows ++ v ∷ []) n ≡ row_of rows n
row_front [] v n lt = absurd (omega arith)
row_front (w ∷ rows) v zero lt = refl
row_front (w ∷ rows) v (suc n) lt = row_front rows v n (omega arith)

row_last : {X : Type 0} (rows : List (Vec X)) (v : Vec X) → row_of (rows ++ v ∷ []) (length rows) ≡ v.items
row_last [] v = refl
row_last (w ∷ rows) v = row_last rows v

pub rows_begin : (t : TableData) (none : Type 0) (places : ℕ) → AreRowsBelow t none [] [] 0 places
rows_begin t none places = record { rows_long = refl; lists_long = refl; each = λ s lt. absurd (omega arith) }

pub rows_step : (t : TableData) (none : Type 0) (rows : List (Vec TokenClass)) (lists : List (Vec ℕ)) (n old new : ℕ) (g : List ℕ) (row : Vec TokenClass) (list : Vec ℕ) → old ≤ new → (none → g ≡ []) → IsClassRow t.grammar.tokens g row.items list.items new → AreRowsBelow t none rows lists n old → AreRowsBelow t none (rows ++ row ∷ []) (lists ++ list ∷ []) (n + 1) new
rows_step t none rows lists n old new g row list le given ok h = record {
  rows_long = (let l = length-append rows (row ∷ []) in let m = h.rows_long in omega arith);
  lists_long = (let l = length-append lists (list ∷ []) in let m = h.lists_long in omega arith);
  each = λ s lt. elim (cases_lt s n) [
    | inl less ↦ (
        let o = h.each s less in
        let a : row_of (rows ++ row ∷ []) s ≡ row_of rows s = row_front rows row s (let m = h.rows_long in omega arith) in
        let b : row_of (lists ++ list ∷ []) s ≡ row_of lists s = row_front lists list s (let m = h.lists_long in omega arith) in
        (o.0, o.1, rw (a, b) (row_higher t.grammar.tokens o.0 (row_of rows s) (row_of lists s) old new le o.2)))
    | inr ge ↦ (
        let at : s ≡ n = omega arith in
        let a : row_of (rows ++ row ∷ []) n ≡ row.items = (let m : length rows ≡ n = h.rows_long in rw m at (row_last rows row)) in
        let b : row_of (lists ++ list ∷ []) n ≡ list.items = (let m : length lists ≡ n = h.lists_long in rw m at (row_last lists list)) in
        (g, given, rw (at, a, b) ok))
  ];
}

pub alike_both : (t : TableData) (c : TokenClasses) (r : Reduction) (z : ℕ) → run_move_of t r.end (z ∷ []) ≡ Reduces r.production → run_move_of t r.end (rep_of c r.target z ∷ []) ≡ Reduces r.production → rep_of c r.end z ≡ rep_of c r.end (rep_of c r.target z) → TreatsAlike t c r z
alike_both t c r z there back same = record { to_representative = λ m. (back, same); from_representative = λ m. there }

pub alike_none : (t : TableData) (c : TokenClasses) (r : Reduction) (z : ℕ) → (run_move_of t r.end (z ∷ []) ≡ Reduces r.production → ⊥) → (run_move_of t r.end (rep_of c r.target z ∷ []) ≡ Reduces r.production → ⊥) → TreatsAlike t c r z
alike_none t c r z there back = record { to_representative = λ m. absurd (there m); from_representative = λ m. absurd (back m) }

pub alike_by : (t : TableData) (c : TokenClasses) (r : Reduction) (z other here same : ℕ) (there back : Bool) → other ≡ rep_of c r.target z → IsTrue there ↔ (run_move_of t r.end (z ∷ []) ≡ Reduces r.production) → IsTrue back ↔ (run_move_of t r.end (other ∷ []) ≡ Reduces r.production)
    → here ≡ rep_of c r.end z → same ≡ rep_of c r.end other → IsTrue (are_treated_alike there back (nat_eq here same)) → TreatsAlike t c r z
alike_by t c r z other here same true true is t_is b_is h s e =
    let one : here ≡ same = grind (arith, common_steps, e) in
    alike_both t c r z (t_is.0 refl) (rw is at (b_is.0 refl)) (sym h ∙ one ∙ s ∙ ap (rep_of c r.end) is)
alike_by t c r z other here same true false is t_is b_is h s e = absurd (let y : false ≡ true = e in cc)
alike_by t c r z other here same false true is t_is b_is h s e = absurd (let y : false ≡ true = e in cc)
alike_by t c r z other here same false false is t_is b_is h s e =
    alike_none t c r z (λ m. (let y : false ≡ true = t_is.1 m in cc)) (λ m. (let y : false ≡ true = b_is.1 (rw is m) in cc))

pub alike_more : (t : TableData) (c : TokenClasses) (r : Reduction) (n : ℕ) → TreatsAllAlike t c r n → TreatsAlike t c r n → TreatsAllAlike t c r (n + 1)
alike_more t c r n h one z lt = elim (cases_lt z n) [ inl less ↦ h z less | inr ge ↦ (let is : z ≡ n = omega arith in rw is one) ]
