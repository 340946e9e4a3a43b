-- Lines that calls append in sequence, item by item.
use Rattle.std.proofs.Common.{◌≡◌, ℕ, ◌+◌, ◌<◌, List, [], ◌∷◌, ◌++◌, length, get_or, take, sym, ap, ◌∙◌, append_assoc}
use Rattle.std.proofs.lemmas.List.{append-nil}
use Rattle.mh_grammar.proofs.Lists.{take_step}
use Rattle.mh_lint_findings.specs.Lines.{Line, lines_of}
use Rattle.mh_lint_findings.specs.LinesInOrder.{AreInOrder}
use Rattle.mh_lint_findings.specs.LinesInOrder as order
use Rattle.mh_lint_findings.specs.code.AppendedLines.{AppendsLines}
use Rattle.mh_lint_findings.specs.declared.findings.Finding.{Finding}
use Rattle.mh_lint_findings.proofs.AreInOrder.{in_order_more}

-- Nothing is appended.
pub appends_nothing : (Are : List Line → Type 0) (found : List Finding) → Are [] → AppendsLines Are found found
appends_nothing Are found are = record { lines = []; are = are; is = sym (append-nil (lines_of found)) }

-- These lines are appended.
pub appends_lines : (Are : List Line → Type 0) (lines : List Line) (old new : List Finding) → Are lines → lines_of new ≡ lines_of old ++ lines → AppendsLines Are old new
appends_lines Are lines old new are is = record { lines = lines; are = are; is = is }

-- Lines are appended, and then others.
pub appends_then : (P Q R : List Line → Type 0) (a b c : List Finding) → ((xs ys : List Line) → P xs → Q ys → R (xs ++ ys)) → AppendsLines P a b → AppendsLines Q b c → AppendsLines R a c
appends_then P Q R a b c join p q = record {
  lines = p.lines ++ q.lines;
  are = join p.lines q.lines p.are q.are;
  is = q.is ∙ ap (λ xs. xs ++ q.lines) p.is ∙ append_assoc (lines_of a) p.lines q.lines;
}

module _ {A : Type 0} (Of : A → List Line → Type 0) where
  -- No item comes first.
  pub appends_none : (found : List Finding) → AppendsLines (AreInOrder Of []) found found
  appends_none found = appends_nothing (AreInOrder Of []) found order.AreInOrder.none

  -- The lines of the first items, and then those of the next item.
  pub appends_more : (xs : List A) (i : ℕ) (x : A) (a b c : List Finding) → i < length xs → x ≡ get_or xs i x → AppendsLines (AreInOrder Of (take i xs)) a b → AppendsLines (Of x) b c → AppendsLines (AreInOrder Of (take (i + 1) xs)) a c
  appends_more xs i x a b c within at p q = rw (take_step xs i x within at) (appends_then (AreInOrder Of (take i xs)) (Of x) (AreInOrder Of (take i xs ++ x ∷ [])) a b c (λ l m are of. in_order_more Of (take i xs) x l m are of) p q)
