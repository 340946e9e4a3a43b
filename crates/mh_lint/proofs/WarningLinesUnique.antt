-- The lines for the warnings on an accepted grammar are unique.
use Rattle.std.proofs.Common.{◌≡◌, ◌+◌, ℕ, true, List, [], ◌∷◌, ◌++◌, Option, None, Some, refl, sym, ap, ◌∙◌, arith}
use Rattle.std.specs.Prelude.{codes}
use Rattle.std.specs.List.{enumerate_from, slice_get}
use Rattle.std.specs.Option.{option_and_then, option_map}
use Rattle.std.proofs.lemmas.Option.{same_Some}
use Rattle.mh_grammar.specs.Text.{Text}
use Rattle.mh_expand.specs.Terms.{term_of, text}
use Rattle.mh_join_names.specs.Names.{name_by}
use Rattle.mh_join_names.specs.Faults.{Meanings, text_of}
use Rattle.mh_rules.specs.declared.joined.Applied.{Applied}
use Rattle.mh_rules.specs.declared.modules.Module.{Module}
use Rattle.mh_rules.specs.declared.modules.Ref.{Ref}
use Rattle.mh_reader_places.specs.declared.mentions.Mention.{Mention}
use Rattle.mh_reader_places.specs.declared.mentions.Role.{Role}
use Rattle.mh_reader_places.specs.declared.mentions.Role.TheVariants as roles
use Rattle.mh_lint_findings.specs.Lines.{Line, line}
use Rattle.mh_lint_findings.specs.declared.findings.Position.TheVariants.{InFile}
use Rattle.mh_lint_findings.proofs.AreInOrder.{in_order_once}
use Rattle.mh_lint_states.proofs.AutomatonLinesUnique.{automaton_lines_once}
use Rattle.mh_lint_faults.specs.FaultLines.{rule_in_role}
use Rattle.mh_lint_faults.specs.Stages.{Stages}
use Rattle.mh_lint.specs.Built.{Built}
use Rattle.mh_lint.specs.MentionWarnings.{IsActualAt, IsWarning, declarations_before, is_prec}
use Rattle.mh_lint.specs.MentionWarnings as warnings
use Rattle.mh_lint.specs.Warnings.{AreFileLines, AreLinesOfFile, AreNameLines, AreWarningLines, cost_line}
use Rattle.mh_lint.specs.Warnings as lines
use Rattle.mh_lint.specs.code.Declarations.{actual_of}

-- ---- The text of a warning, by the name and the role of the mention.

abbrev prec_text : Ref → Text
prec_text name = codes "level without use: %prec " ++ text_of name

abbrev text_in : Stages → Meanings → ℕ → Ref → Role → Option Text
text_in s w file name roles.Token = Some (codes "unused token: " ++ text_of name)
text_in s w file name roles.Rule = Some (codes "unreachable rule: " ++ text_of name)
text_in s w file name (roles.Level rank) = option_map (λ x. codes "level without use: " ++ x) (name_by w.aliased name)
text_in s w file name (roles.Prec alternative) = Some (prec_text name)
text_in s w file name (roles.GroupPrec low high) = Some (prec_text name)
text_in s w file name (roles.OnError rank item) = option_map (λ (a : Applied). codes "reduction on errors without use: " ++ text s.joined (term_of a)) (actual_of s.joined (declarations_before s.found file) rank item)
text_in s w file name roles.Alias = None
text_in s w file name roles.Start = None
text_in s w file name roles.Formal = None
text_in s w file name (roles.Head alternative producer) = None

rule_text : (s : Stages) (w : Meanings) (file k : ℕ) (m : Module) (name : Ref) (role : Role) (n : ℕ) → rule_in_role w k m (text_of name) role ≡ Some n → text_in s w file name role ≡ Some (codes "unreachable rule: " ++ text_of name)
rule_text s w file k m name roles.Rule n e = refl
rule_text s w file k m name roles.Token n e = absurd cc
rule_text s w file k m name (roles.Level rank) n e = absurd cc
rule_text s w file k m name (roles.Prec alternative) n e = absurd cc
rule_text s w file k m name (roles.GroupPrec low high) n e = absurd cc
rule_text s w file k m name (roles.OnError rank item) n e = absurd cc
rule_text s w file k m name roles.Alias n e = absurd cc
rule_text s w file k m name roles.Start n e = absurd cc
rule_text s w file k m name roles.Formal n e = absurd cc
rule_text s w file k m name (roles.Head alternative producer) n e = absurd cc

prec_text_in : (s : Stages) (w : Meanings) (file : ℕ) (name : Ref) (role : Role) → is_prec role ≡ true → text_in s w file name role ≡ Some (prec_text name)
prec_text_in s w file name (roles.Prec alternative) e = refl
prec_text_in s w file name (roles.GroupPrec low high) e = refl
prec_text_in s w file name roles.Rule e = absurd cc
prec_text_in s w file name roles.Token e = absurd cc
prec_text_in s w file name (roles.Level rank) e = absurd cc
prec_text_in s w file name (roles.OnError rank item) e = absurd cc
prec_text_in s w file name roles.Alias e = absurd cc
prec_text_in s w file name roles.Start e = absurd cc
prec_text_in s w file name roles.Formal e = absurd cc
prec_text_in s w file name (roles.Head alternative producer) e = absurd cc

-- The actual of a mention, by its declaration and its number in the declaration.
actual_text : (s : Stages) (file : ℕ) (before : List Mention) (x : Mention) (declaration : ℕ) (name : Text) (a : IsActualAt s file before x declaration name) → actual_of s.joined (declarations_before s.found file) a.rank a.item ≡ Some a.actual
actual_text s file before x declaration name a =
    ap (λ n. option_and_then (λ (actuals : List Applied). slice_get actuals a.item) (slice_get s.joined.on_error n)) (sym a.declaration_is)
    ∙ ap (option_and_then (λ (actuals : List Applied). slice_get actuals a.item)) a.of_joined ∙ a.of_declaration

module _ (s : Stages) (b : Built) (w : Meanings) (file : ℕ) where
  warning_text : (before : List Mention) (x : Mention) (t : Text) → IsWarning s b w file before x t → text_in s w file x.name x.role ≡ Some t
  warning_text before x t (warnings.IsWarning.unused_token z first number unused unnamed) = ap (text_in s w file x.name) first.role_is
  warning_text before x t (warnings.IsWarning.unreachable_rule number rule first at none) = rule_text s w file (file + 1) first.is.of_file.placed.module x.name x.role number first.is.number_is
  warning_text before x t (warnings.IsWarning.level rank name role is none) = ap (text_in s w file x.name) role ∙ ap (option_map (λ y. codes "level without use: " ++ y)) is
  warning_text before x t (warnings.IsWarning.prec role none) = prec_text_in s w file x.name x.role role
  warning_text before x t (warnings.IsWarning.on_error declaration name at none) =
      ap (text_in s w file x.name) at.role_is
      ∙ ap (option_map (λ (a : Applied). codes "reduction on errors without use: " ++ text s.joined (term_of a))) (actual_text s file before x declaration name at)
      ∙ ap (λ n. Some (codes "reduction on errors without use: " ++ n)) (sym at.name_is)

  warning_once : (before : List Mention) (x : Mention) (t u : Text) → IsWarning s b w file before x t → IsWarning s b w file before x u → t ≡ u
  warning_once before x t u p q = same_Some t u (sym (warning_text before x t p) ∙ warning_text before x u q)

  -- ---- The lines of a file.

  file_lines_once : (before xs : List Mention) (costs : List ℕ) (ls ms : List Line) → AreFileLines s b w file before xs costs ls → AreFileLines s b w file before xs costs ms → ls ≡ ms
  file_lines_once before [] costs ls ms lines.AreFileLines.ended lines.AreFileLines.ended = refl
  file_lines_once before (x ∷ xs) (start ∷ costs) ls ms (lines.AreFileLines.attribute {lines = rest} l p) (lines.AreFileLines.attribute {lines = others} m q) =
      ap (λ ns. cost_line file start ∷ ns) (file_lines_once before (x ∷ xs) costs rest others p q)
  file_lines_once before (x ∷ xs) (start ∷ costs) ls ms (lines.AreFileLines.attribute l p) (lines.AreFileLines.warned t none is q) = absurd (omega (arith, l, none))
  file_lines_once before (x ∷ xs) (start ∷ costs) ls ms (lines.AreFileLines.attribute l p) (lines.AreFileLines.clear none never q) = absurd (omega (arith, l, none))
  file_lines_once before (x ∷ xs) (start ∷ costs) ls ms (lines.AreFileLines.warned t none is p) (lines.AreFileLines.attribute l q) = absurd (omega (arith, l, none))
  file_lines_once before (x ∷ xs) costs ls ms (lines.AreFileLines.warned {lines = rest} t none is p) (lines.AreFileLines.warned {lines = others} u apart so q) =
      let same : t ≡ u = warning_once before x t u is so in
      let left : rest ≡ others = file_lines_once (before ++ x ∷ []) xs costs rest others p q in
      λ i. line (InFile file x.start) (same i) ∷ left i
  file_lines_once before (x ∷ xs) costs ls ms (lines.AreFileLines.warned t none is p) (lines.AreFileLines.clear apart never q) = absurd (never t is)
  file_lines_once before (x ∷ xs) (start ∷ costs) ls ms (lines.AreFileLines.clear none never p) (lines.AreFileLines.attribute l q) = absurd (omega (arith, l, none))
  file_lines_once before (x ∷ xs) costs ls ms (lines.AreFileLines.clear none never p) (lines.AreFileLines.warned u apart is q) = absurd (never u is)
  file_lines_once before (x ∷ xs) costs ls ms (lines.AreFileLines.clear {lines = rest} none never p) (lines.AreFileLines.clear {lines = others} apart too q) = file_lines_once (before ++ x ∷ []) xs costs rest others p q

-- ---- All lines.

name_lines_once : (names : List Text) (e : ℕ × Text) (xs ys : List Line) → AreNameLines names e xs → AreNameLines names e ys → xs ≡ ys
name_lines_once names e xs ys (lines.AreNameLines.new first) (lines.AreNameLines.new once) = refl
name_lines_once names e xs ys (lines.AreNameLines.new first) (lines.AreNameLines.again is) = absurd (first is)
name_lines_once names e xs ys (lines.AreNameLines.again is) (lines.AreNameLines.new first) = absurd (first is)
name_lines_once names e xs ys (lines.AreNameLines.again is) (lines.AreNameLines.again so) = refl

pub warning_lines_once : (names : List Text) (s : Stages) (b : Built) (w : Meanings) (x y : List Line) → AreWarningLines names s b w x → AreWarningLines names s b w y → x ≡ y
warning_lines_once names s b w x y p q =
    let placed : p.placed ≡ q.placed = in_order_once (AreLinesOfFile s b w) (λ e. file_lines_once s b w e.0 [] e.1.mentions e.1.bad_costs) (enumerate_from 0 s.found) p.placed q.placed p.are_placed q.are_placed in
    let of_files : p.of_files ≡ q.of_files = in_order_once (AreNameLines names) (name_lines_once names) (enumerate_from 0 names) p.of_files q.of_files p.are_of_files q.are_of_files in
    let of_automaton : p.of_automaton ≡ q.of_automaton = automaton_lines_once s.grammar b.automaton b.table b.conflicts p.of_automaton q.of_automaton p.are_of_automaton q.are_of_automaton in
    p.is ∙ (λ i. placed i ++ of_files i ++ of_automaton i) ∙ sym q.is
