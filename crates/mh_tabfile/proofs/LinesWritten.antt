-- Proves that the lines that are written word by word are the lines that the definition of table files gives.
use Rattle.std.proofs.Common.{◌≡◌, ◌+◌, ◌<◌, ◌≤◌, ℕ, suc, length, drop, get_or, List, [], ◌∷◌, ◌++◌, map, Some, codes, decimal, arith, refl, append-nil, append_assoc, sym, ap, ◌∙◌}
use Rattle.std.specs.List.{join_with_byte}
use Rattle.std.specs.Prelude.{slice_index_or}
use Rattle.std.proofs.Math.Numerals.{suc-eq-add-one}
use Rattle.std.proofs.Math.Seq.{drop-cons}
use Rattle.std.proofs.lemmas.Grind.{flat_map-append}
use Rattle.std.proofs.lemmas.List.{map-append, at_drop_more}
use Rattle.mh_grammar.specs.declared.types.Grammar.{Grammar}
use Rattle.mh_items_kernels.specs.KernelTypes.{KernelItem, Kernel, Automaton}
use Rattle.mh_items_kernels.specs.Automaton.{no_kernel, kernel_at, edges_at}
use Rattle.mh_grammar.specs.declared.edges.Edge.{Edge}
use Rattle.mh_tables_core.specs.declared.parts.Action.{Action}
use Rattle.mh_tables_core.specs.declared.parts.Action.TheVariants.{Refuse}
use Rattle.mh_tables_core.specs.declared.parts.StateParts.{StateParts}
use Rattle.mh_tables_core.specs.Table.{TableData, no_state, state_at, cell_of}
use Rattle.mh_resolve_cells.proofs.AreResolved.{kernel_is, edges_are}
use Rattle.mh_tabfile_form.specs.declared.types.RawTable.{RawTable}
use Rattle.mh_tabfile_form.specs.Form.{Line, line_text, text, version_of, head_line, costs_lines, count_line, production_line, item_line, edge_line, cell_line, state_lines, states_lines, end_line, table_text}
use Rattle.mh_tabfile_form.specs.TableContent.{raw_item, raw_edge, raw_cell, raw_row, raw_state_of, raw_states}
use Rattle.mh_tabfile.specs.code.Texts.{words_after, line_written, lines_written}

joined_after : (word : List ℕ) (words : Line) → word ++ words_after words ≡ join_with_byte 32 (word ∷ words)
joined_after word [] = append-nil word
joined_after word (next ∷ words) = ap (λ rest. word ++ 32 ∷ rest) (joined_after next words)

line_is : (line : Line) → line_written line ≡ line_text line
line_is [] = refl
line_is (word ∷ words) = sym (append_assoc word (words_after words) (10 ∷ [])) ∙ ap (λ front. front ++ 10 ∷ []) (joined_after word words)

pub lines_are : (lines : List Line) → lines_written lines ≡ text lines
lines_are [] = refl
lines_are (line ∷ lines) = ap (λ rest. line_written line ++ rest) (lines_are lines) ∙ ap (λ front. front ++ text lines) (line_is line)

-- A line is written, and then other lines.
pub line_then_lines : (line : Line) (lines : List Line) (old now next : List ℕ) → now ≡ old ++ line_written line → next ≡ now ++ lines_written lines → next ≡ old ++ lines_written (line ∷ lines)
line_then_lines line lines old now next e f = f ∙ ap (λ t. t ++ lines_written lines) e ∙ append_assoc old (line_written line) (lines_written lines)

pub lines_then_lines : (first lines : List Line) (old now next : List ℕ) → now ≡ old ++ lines_written first → next ≡ now ++ lines_written lines → next ≡ old ++ lines_written (first ++ lines)
lines_then_lines first lines old now next e f =
    f ∙ ap (λ t. t ++ lines_written lines) e ∙ append_assoc old (lines_written first) (lines_written lines) ∙ ap (λ t. old ++ t) (sym (flat_map-append line_written first lines))

pub three_words : (old one two three new : List ℕ) → new ≡ (((old ++ one) ++ 32 ∷ two) ++ 32 ∷ three) ++ 10 ∷ [] → new ≡ old ++ line_written (one ∷ two ∷ three ∷ [])
three_words old one two three new e =
    e ∙ append_assoc ((old ++ one) ++ 32 ∷ two) (32 ∷ three) (10 ∷ []) ∙ append_assoc (old ++ one) (32 ∷ two) (32 ∷ (three ++ 10 ∷ [])) ∙ append_assoc old one (32 ∷ (two ++ 32 ∷ (three ++ 10 ∷ [])))
    ∙ ap (λ t. old ++ (one ++ 32 ∷ t)) (sym (append_assoc two (32 ∷ three) (10 ∷ [])))
    ∙ ap (λ t. old ++ (one ++ 32 ∷ ((two ++ 32 ∷ t) ++ 10 ∷ []))) (sym (append-nil three))

-- One more element of a list is written, and the others remain.

pub item_more : {X : Type 0} (F : List X → List ℕ) (xs : List X) (i : ℕ) (d x : X) (first old now next : List ℕ) → i < length xs → x ≡ get_or xs i d →
    F (x ∷ drop (i + 1) xs) ≡ first ++ F (drop (i + 1) xs) → next ≡ now ++ first → now ++ F (drop i xs) ≡ old ++ F xs → next ++ F (drop (i + 1) xs) ≡ old ++ F xs
item_more F xs i d x first old now next l is step e before =
    ap (λ t. t ++ F (drop (i + 1) xs)) e ∙ append_assoc now first (F (drop (i + 1) xs)) ∙ ap (λ t. now ++ t) (sym step ∙ ap (λ z. F (z ∷ drop (i + 1) xs)) is ∙ sym (at_drop_more F xs i d l)) ∙ before

text_more : (old now next : List ℕ) (first rest whole : List Line) → now ++ lines_written (first ++ rest) ≡ old ++ lines_written whole → next ≡ now ++ lines_written first → next ++ lines_written rest ≡ old ++ lines_written whole
text_more old now next first rest whole before e = lines_then_lines first rest now next (next ++ lines_written rest) e refl ∙ before

pub row_more : (g : Grammar) (t : TableData) (s z : ℕ) (a : Action) (old now next : List ℕ) (whole : List Line) → z < length (state_at t s).cells → a ≡ cell_of t s z →
    now ++ lines_written (map cell_line (raw_row g z (drop z (state_at t s).cells))) ≡ old ++ lines_written whole →
    next ≡ now ++ lines_written (map cell_line (raw_cell g z a)) →
    next ++ lines_written (map cell_line (raw_row g (z + 1) (drop (z + 1) (state_at t s).cells))) ≡ old ++ lines_written whole
unfolding cell_of
row_more g t s z a old now next whole known is before e =
    let cells = (state_at t s).cells in
    let here = raw_cell g z (slice_index_or cells z Refuse) in
    let rest = raw_row g (z + 1) (drop (suc z) cells) in
    ap (λ k. next ++ lines_written (map cell_line (raw_row g (z + 1) (drop k cells)))) (sym (suc-eq-add-one z))
    ∙ text_more old now next (map cell_line here) (map cell_line rest) whole
    (ap (λ ls. now ++ lines_written ls) (sym (map-append cell_line here rest) ∙ ap (λ l. map cell_line (raw_row g z l)) (sym (drop-cons cells z Refuse known))) ∙ before)
    (e ∙ ap (λ b. now ++ lines_written (map cell_line (raw_cell g z b))) is)

pub items_written : (g : Grammar) (a : Automaton) (s : ℕ) (kernel : Kernel) (items : List KernelItem) (old new : List ℕ) → s < length a.kernels → kernel ≡ get_or a.kernels s kernel → items ≡ kernel.items →
    new ≡ old ++ lines_written (map item_line (map (raw_item g) items)) → new ≡ old ++ lines_written (map item_line (map (raw_item g) (kernel_at a s).items))
items_written g a s kernel items old new known e f is =
    is ∙ ap (λ (l : List KernelItem). old ++ lines_written (map item_line (map (raw_item g) l))) (f ∙ ap (λ (k : Kernel). k.items) (sym (kernel_is a s kernel known e)))

pub edges_written : (g : Grammar) (a : Automaton) (s : ℕ) (edges row : List Edge) (old new : List ℕ) → s < length a.edges → row ≡ get_or a.edges s row → edges ≡ row →
    new ≡ old ++ lines_written (map edge_line (map (raw_edge g) edges)) → new ≡ old ++ lines_written (map edge_line (map (raw_edge g) (edges_at a s)))
edges_written g a s edges row old new known e f is = is ∙ ap (λ (l : List Edge). old ++ lines_written (map edge_line (map (raw_edge g) l))) (sym (edges_are a s edges row known e f))

pub states_more : (g : Grammar) (a : Automaton) (t : TableData) (s : ℕ) (old now next : List ℕ) (whole : List Line) → s < length a.kernels → s < length a.edges → s < length t.states →
    now ++ lines_written (states_lines s (raw_states g (drop s a.kernels) (drop s a.edges) (drop s t.states))) ≡ old ++ lines_written whole →
    next ≡ now ++ lines_written (state_lines s (raw_state_of g (kernel_at a s) (edges_at a s) (state_at t s))) →
    next ++ lines_written (states_lines (s + 1) (raw_states g (drop (s + 1) a.kernels) (drop (s + 1) a.edges) (drop (s + 1) t.states))) ≡ old ++ lines_written whole
unfolding kernel_at edges_at
states_more g a t s old now next whole ka kb kc before e =
    let here = raw_state_of g (kernel_at a s) (edges_at a s) (state_at t s) in
    ap (λ k. next ++ lines_written (states_lines (s + 1) (raw_states g (drop k a.kernels) (drop k a.edges) (drop k t.states)))) (sym (suc-eq-add-one s))
    ∙ text_more old now next (state_lines s here) (states_lines (s + 1) (raw_states g (drop (suc s) a.kernels) (drop (suc s) a.edges) (drop (suc s) t.states))) whole
    (ap (λ ls. now ++ lines_written (states_lines s ls)) (sym (
    ap (λ l. raw_states g l (drop s a.edges) (drop s t.states)) (drop-cons a.kernels s no_kernel ka)
    ∙ ap (λ l. raw_states g (kernel_at a s ∷ drop (suc s) a.kernels) l (drop s t.states)) (drop-cons a.edges s [] kb)
    ∙ ap (λ l. raw_states g (kernel_at a s ∷ drop (suc s) a.kernels) (edges_at a s ∷ drop (suc s) a.edges) l) (drop-cons t.states s no_state kc))) ∙ before) e

pub count_states : (g : Grammar) (ks : List Kernel) (rows : List (List Edge)) (parts : List StateParts) → length rows ≡ length ks → length parts ≡ length ks → length (raw_states g ks rows parts) ≡ length ks
count_states g [] rows parts e f = refl
count_states g (k ∷ ks) [] parts e f = absurd (omega (arith, e))
count_states g (k ∷ ks) (row ∷ rows) [] e f = absurd (omega (arith, f))
count_states g (k ∷ ks) (row ∷ rows) (p ∷ parts) e f = ap suc (count_states g ks rows parts (omega (arith, e)) (omega (arith, f)))

-- If the parts of a table are appended one after the other, the whole table is written.
pub table_written : (raw : RawTable) (old one two three four five six seven eight new : List ℕ) (costs : List ℕ) → old ≡ [] → raw.costs ≡ Some costs →
    one ≡ old ++ line_written (head_line 2 raw.mode) → two ≡ one ++ line_written (codes "tokens" ∷ raw.tokens) → three ≡ two ++ line_written (codes "costs" ∷ map decimal costs) →
    four ≡ three ++ line_written (codes "starts" ∷ raw.starts) → five ≡ four ++ line_written (count_line (codes "productions") (length raw.productions)) →
    six ≡ five ++ lines_written (map production_line raw.productions) → seven ≡ six ++ line_written (count_line (codes "states") (length raw.states)) →
    eight ≡ seven ++ lines_written (states_lines 0 raw.states) → new ≡ eight ++ codes "end\n" → new ≡ table_text raw
table_written raw old one two three four five six seven eight new costs none c a b d e f g h i j =
    let states = states_lines 0 raw.states ++ end_line ∷ [] in
    let automaton = count_line (codes "states") (length raw.states) ∷ states in
    let productions = map production_line raw.productions ++ automaton in
    let counted = count_line (codes "productions") (length raw.productions) ∷ productions in
    let grammar = (codes "starts" ∷ raw.starts) ∷ counted in
    let costly = (codes "costs" ∷ map decimal costs) ∷ grammar in
    let named = (codes "tokens" ∷ raw.tokens) ∷ costly in
    line_then_lines (head_line 2 raw.mode) named old one new a
    (line_then_lines (codes "tokens" ∷ raw.tokens) costly one two new b
    (line_then_lines (codes "costs" ∷ map decimal costs) grammar two three new d
    (line_then_lines (codes "starts" ∷ raw.starts) counted three four new e
    (line_then_lines (count_line (codes "productions") (length raw.productions)) productions four five new f
    (lines_then_lines (map production_line raw.productions) automaton five six new g
    (line_then_lines (count_line (codes "states") (length raw.states)) states six seven new h
    (lines_then_lines (states_lines 0 raw.states) (end_line ∷ []) seven eight new i j)))))))
    ∙ ap (λ t. t ++ lines_written (head_line 2 raw.mode ∷ named)) none
    ∙ lines_are (head_line 2 raw.mode ∷ named)
    ∙ ap (λ o. text (head_line (version_of o) raw.mode ∷ (codes "tokens" ∷ raw.tokens) ∷ (costs_lines o ++ grammar))) (sym c)
