-- The text of the shortest words is unique, and the code writes its lines in order.
use Rattle.std.proofs.Common.{◌≡◌, ◌∙◌, ◌+◌, ◌<◌, ◌≤◌, ◌++◌, ℕ, List, length, drop, get_or, sym, ap}
use Rattle.std.proofs.lemmas.List.{append_assoc, append-nil, drop_all}
use Rattle.mh_grammar.specs.declared.types.Grammar.{Grammar}
use Rattle.mh_grammar.specs.Plain.{plain_of}
use Rattle.mh_grammar.specs.Text.{Text}
use Rattle.mh_grammar.proofs.Lists.{drop_step}
use Rattle.mh_sample.specs.Sentences.{lines_from, shortest_line, IsShortestText}
use Rattle.mh_sample.specs.declared.word.Shortest.{Shortest}
use Rattle.mh_sample.proofs.ShortestUnique.{lists_one, shortest_one}

-- One line is written.
pub line_more : (g : Grammar) (answers : List Shortest) (i : ℕ) (s : Shortest) (old new whole : Text) → i < length answers → s ≡ get_or answers i s → new ≡ old ++ shortest_line g i s → old ++ lines_from g i (drop i answers) ≡ whole → new ++ lines_from g (i + 1) (drop (i + 1) answers) ≡ whole
line_more g answers i s old new whole below at is so_far =
    ap (λ t. t ++ lines_from g (i + 1) (drop (i + 1) answers)) is
    ∙ append_assoc old (shortest_line g i s) (lines_from g (i + 1) (drop (i + 1) answers))
    ∙ ap (λ left. old ++ lines_from g i left) (sym (drop_step answers i s below at))
    ∙ so_far

-- All lines are written.
pub lines_all : (g : Grammar) (answers : List Shortest) (i : ℕ) (text whole : Text) → length answers ≤ i → text ++ lines_from g i (drop i answers) ≡ whole → text ≡ whole
lines_all g answers i text whole le so_far = sym (append-nil text) ∙ ap (λ left. text ++ lines_from g i left) (sym (drop_all i answers le)) ∙ so_far

pub shortest_text_once : (g : Grammar) (x y : Text) → IsShortestText g x → IsShortestText g y → x ≡ y
shortest_text_once g x y a b =
    let same : a.answers ≡ b.answers = lists_one a.answers b.answers (a.all ∙ sym b.all) (λ n s t p q. shortest_one (plain_of g) n s t (a.each n s p) (b.each n t q)) in
    a.is ∙ ap (lines_from g 0) same ∙ sym b.is
