-- If there is no line for a fault of names, then joining finds no fault.
use Rattle.std.proofs.Common.{◌≡◌, ℕ, ◌+◌, Bool, true, List, [], ◌∷◌, Option, None, Some, map, flat_map, refl, sym, ap, ◌∙◌}
use Rattle.std.specs.List.{enumerate_from}
use Rattle.mh_grammar.specs.Text.{Text}
use Rattle.mh_grammar.proofs.Lists.{nil_parts}
use Rattle.mh_rules.specs.declared.modules.Alternative.{Alternative}
use Rattle.mh_rules.specs.declared.modules.Module.{Module}
use Rattle.mh_rules.specs.declared.modules.Ref.{Ref}
use Rattle.mh_rules.specs.declared.modules.Rule.{Rule}
use Rattle.mh_rules.specs.declared.modules.TokenDecl.{TokenDecl}
use Rattle.mh_front.specs.Texts.{join_text}
use Rattle.mh_join_names.specs.Names.{formal_number, is_public}
use Rattle.mh_join_names.specs.Faults.{Meanings, aliases_in_file, duplicates, error_token, errors_in_actual, errors_in_alternative, errors_in_file, errors_in_rule, formals_in_file, has_some, join_faults, kinds_in_file, levels_in_file, meanings, meant_by, other_kind, other_shape, other_token, own_in_file, refs, repeats, shapes_in_file, undefined, undefined_in_actual, undefined_in_alternative, undefined_in_declarations, undefined_in_file, undefined_in_rule, undefined_prec, unknown_string, unless, unlevelled, unlevelled_in_file, unlevelled_in_rule}
use Rattle.mh_join_names.specs.declared.fault.JoinFault.{JoinFault}
use Rattle.mh_join_names.specs.declared.fault.JoinFault.TheVariants as faults
use Rattle.mh_join_names.specs.declared.kinds.NameKind.TheVariants as kinds
use Rattle.mh_lex.specs.declared.kinds.Lexeme.{Lexeme}
use Rattle.mh_reader_places.specs.Mentions.{in_file}
use Rattle.mh_reader_places.specs.Places.{ReadsPlaced, mention_of, seen}
use Rattle.mh_reader_places.specs.declared.reading.PlacedModule.{PlacedModule}
use Rattle.mh_lint_findings.specs.Lines.{line}
use Rattle.mh_lint_findings.specs.declared.findings.GrammarFile.{GrammarFile}
use Rattle.mh_lint_findings.specs.declared.findings.Position.TheVariants.{InFile, OfFile}
use Rattle.mh_lint_faults.specs.FaultLines.{grammar_lines, join_lines, name_lines}
use Rattle.mh_lint_faults.specs.NameFaults.{grammar_faults, name_faults}
use Rattle.mh_lint_faults.specs.Stages.{AreRead, modules_of}
use Rattle.mh_lint_faults.proofs.CleanMentions.{map_nil, nil_both}
use Rattle.mh_lint_faults.proofs.CleanModule.{alternative_faults, head_faults, nil_weaker, prec_faults, producer_faults, token_faults}
use Rattle.mh_lint_faults.proofs.CleanFile.{IsFileClean, file_clean, rule_list}

module _ (w : Meanings) (k : ℕ) (m : Module) (ls : List Lexeme) where
  -- ---- Alternatives.

  undefined_alternative : (fs : List Text) (a : Alternative) → alternative_faults w k m ls fs a ≡ [] → undefined_in_alternative w.aliased (meant_by w k (formal_number fs)) a ≡ []
  undefined_alternative fs a e =
      let parts = nil_parts (flat_map (producer_faults w k m ls fs) a.producers) (prec_faults w k m ls a.prec) e in
      nil_both (flat_map (undefined_in_actual true (meant_by w k (formal_number fs))) a.producers) _
      (nil_weaker (producer_faults w k m ls fs) (undefined_in_actual true (meant_by w k (formal_number fs))) a.producers (λ p h. nil_weaker (head_faults w k m ls fs) (undefined true (meant_by w k (formal_number fs))) (refs p) (λ r g. (nil_parts (undefined true (meant_by w k (formal_number fs)) r) (error_token r) g).0) h) parts.0)
      (by_prec a.prec parts.1)
    where
      by_prec : (p : Option Ref) → prec_faults w k m ls p ≡ [] → undefined_prec w.aliased p ≡ []
      by_prec None h = refl
      by_prec (Some r) h = (nil_parts (unknown_string w.aliased r) (unlevelled w (Some r)) h).0

  error_alternative : (fs : List Text) (a : Alternative) → alternative_faults w k m ls fs a ≡ [] → errors_in_alternative a ≡ []
  error_alternative fs a e =
      nil_weaker (producer_faults w k m ls fs) errors_in_actual a.producers (λ p h. nil_weaker (head_faults w k m ls fs) error_token (refs p) (λ r g. (nil_parts (undefined true (meant_by w k (formal_number fs)) r) (error_token r) g).1) h)
      (nil_parts (flat_map (producer_faults w k m ls fs) a.producers) (prec_faults w k m ls a.prec) e).0

  level_alternative : (fs : List Text) (a : Alternative) → alternative_faults w k m ls fs a ≡ [] → unlevelled w a.prec ≡ []
  level_alternative fs a e = by_prec a.prec (nil_parts (flat_map (producer_faults w k m ls fs) a.producers) (prec_faults w k m ls a.prec) e).1
    where
      by_prec : (p : Option Ref) → prec_faults w k m ls p ≡ [] → unlevelled w p ≡ []
      by_prec None h = refl
      by_prec (Some r) h = (nil_parts (unknown_string w.aliased r) (unlevelled w (Some r)) h).1

  -- ---- Rules.

  record IsRuleNil (r : Rule) : Type 0 where
    kind : other_kind w kinds.Rule r.name ≡ []
    formals : repeats [] r.formals ≡ []
    shape : other_shape w (is_public w.starts m.rules) r ≡ []
    alternatives : flat_map (alternative_faults w k m ls r.formals) r.alternatives ≡ []

  rule_nil : (r : Rule) → rule_list w k m ls r ≡ [] → IsRuleNil r
  rule_nil r e =
      let first = nil_parts (other_kind w kinds.Rule r.name) _ e in
      let second = nil_parts (repeats [] r.formals) _ first.1 in
      let third = nil_parts (other_shape w (is_public w.starts m.rules) r) _ second.1 in
      record { kind = first.0; formals = second.0; shape = third.0; alternatives = third.1 }

-- No fault of names in a file, by each search of joining.
record IsFileNil (w : Meanings) (k : ℕ) (m : Module) : Type 0 where
  undefined : undefined_in_file w (k, m) ≡ []
  kinds : kinds_in_file w m ≡ []
  aliases : aliases_in_file w m ≡ []
  own : own_in_file w m ≡ []
  formals : formals_in_file m ≡ []
  shapes : shapes_in_file w m ≡ []
  levels : levels_in_file w (k, m) ≡ []
  errors : errors_in_file m ≡ []
  unlevelled : unlevelled_in_file w m ≡ []

file_nil : (w : Meanings) (k : ℕ) (m : Module) (ls : List Lexeme) → IsFileClean w k m ls m → IsFileNil w k m
file_nil w k m ls c =
    let each : (f : Rule → List JoinFault) → ((r : Rule) → IsRuleNil w k m ls r → f r ≡ []) → flat_map f m.rules ≡ [] = λ f h. nil_weaker (rule_list w k m ls) f m.rules (λ r e. h r (rule_nil w k m ls r e)) c.rules.each in
    record {
      undefined = nil_both (undefined_in_declarations w k m) _ (nil_both _ _ c.declarations.starts (nil_both _ _ c.declarations.strings c.declarations.on_error)) (each (undefined_in_rule w k) (λ r h. nil_weaker (alternative_faults w k m ls r.formals) _ r.alternatives (undefined_alternative w k m ls r.formals) h.alternatives));
      kinds = nil_both _ _ (nil_weaker (token_faults w k m ls) (λ (t : TokenDecl). other_kind w kinds.Token t.name) m.tokens (λ t e. (nil_parts (other_kind w kinds.Token t.name) (other_token w t.name t.alias) e).0) c.declarations.tokens) (each (λ r. other_kind w kinds.Rule r.name) (λ r h. h.kind));
      aliases = nil_weaker (token_faults w k m ls) (λ (t : TokenDecl). other_token w t.name t.alias) m.tokens (λ t e. (nil_parts (other_kind w kinds.Token t.name) (other_token w t.name t.alias) e).1) c.declarations.tokens;
      own = c.rules.own;
      formals = each (λ r. repeats [] r.formals) (λ r h. h.formals);
      shapes = each (other_shape w (is_public w.starts m.rules)) (λ r h. h.shape);
      levels = c.declarations.levels;
      errors = each errors_in_rule (λ r h. nil_weaker (alternative_faults w k m ls r.formals) errors_in_alternative r.alternatives (error_alternative w k m ls r.formals) h.alternatives);
      unlevelled = each (unlevelled_in_rule w) (λ r h. nil_weaker (alternative_faults w k m ls r.formals) (λ (a : Alternative). unlevelled w a.prec) r.alternatives (level_alternative w k m ls r.formals) h.alternatives);
    }

-- A file without lines.
placed_nil : (w : Meanings) (n : ℕ) (bytes : List ℕ) (p : PlacedModule) → ReadsPlaced bytes p → name_lines w (n, p) ≡ [] → IsFileNil w (n + 1) p.module
placed_nil w n bytes p reads e =
    let ls = seen bytes reads.lexemes in
    let clean : name_faults w (n + 1) p.module (map (mention_of ls) (in_file reads.file)) ≡ [] = ap (name_faults w (n + 1) p.module) (sym reads.mentions) ∙ map_nil (λ (f : ℕ × JoinFault). line (InFile n f.0) (join_text f.1)) (name_faults w (n + 1) p.module p.mentions) e in
    file_nil w (n + 1) p.module ls
    (file_clean w (n + 1) p.module ls reads.file [] refl refl (record { tokens = refl; starts = refl; strings = refl; levels = refl; on_error = refl }) (record { rules = refl; free = λ j l. refl }) clean)

-- No fault of names in the files from number n + 1 on.
record AreFilesNil (w : Meanings) (n : ℕ) (ms : List Module) : Type 0 where
  undefined : flat_map (undefined_in_file w) (enumerate_from n ms) ≡ []
  kinds : flat_map (kinds_in_file w) ms ≡ []
  aliases : flat_map (aliases_in_file w) ms ≡ []
  own : flat_map (own_in_file w) ms ≡ []
  formals : flat_map formals_in_file ms ≡ []
  shapes : flat_map (shapes_in_file w) ms ≡ []
  levels : flat_map (levels_in_file w) (enumerate_from n ms) ≡ []
  errors : flat_map errors_in_file ms ≡ []
  unlevelled : flat_map (unlevelled_in_file w) ms ≡ []

files_nil : (w : Meanings) (n : ℕ) (files : List GrammarFile) (found : List PlacedModule) → AreRead files found → flat_map (name_lines w) (enumerate_from n found) ≡ [] → AreFilesNil w (n + 1) (modules_of found)
files_nil w n files [] reads e = record { undefined = refl; kinds = refl; aliases = refl; own = refl; formals = refl; shapes = refl; levels = refl; errors = refl; unlevelled = refl }
files_nil w n [] (p ∷ found) reads e = absurd reads
files_nil w n (f ∷ files) (p ∷ found) reads e =
    let parts = nil_parts (name_lines w (n, p)) (flat_map (name_lines w) (enumerate_from (n + 1) found)) e in
    let here = placed_nil w n f.bytes p reads.0 parts.0 in
    let rest = files_nil w (n + 1) files found reads.1 parts.1 in
    record {
      undefined = nil_both _ _ here.undefined rest.undefined;
      kinds = nil_both _ _ here.kinds rest.kinds;
      aliases = nil_both _ _ here.aliases rest.aliases;
      own = nil_both _ _ here.own rest.own;
      formals = nil_both _ _ here.formals rest.formals;
      shapes = nil_both _ _ here.shapes rest.shapes;
      levels = nil_both _ _ here.levels rest.levels;
      errors = nil_both _ _ here.errors rest.errors;
      unlevelled = nil_both _ _ here.unlevelled rest.unlevelled;
    }

-- The law.
pub no_join_fault : (prelude : Bool) (files : List GrammarFile) (found : List PlacedModule) → AreRead files found → join_lines (meanings prelude (modules_of found)) found ≡ [] → join_faults prelude (modules_of found) ≡ []
no_join_fault prelude files found reads e =
    let w = meanings prelude (modules_of found) in
    let parts = nil_parts (flat_map (name_lines w) (enumerate_from 0 found)) (grammar_lines w) e in
    let all = files_nil w 0 files found reads parts.0 in
    let grammar = nil_parts (unless (has_some w.starts) faults.NoStart) _ (map_nil (λ (f : JoinFault). line (OfFile 0) (join_text f)) (grammar_faults w) parts.1) in
    nil_both _ _ all.undefined
    (nil_both (duplicates w (modules_of found)) _
    (nil_both _ _ (nil_both _ _ all.kinds all.aliases) (nil_both _ _ (nil_both _ _ all.own (nil_both _ _ all.formals all.shapes)) all.levels))
    (nil_both _ _ grammar.0 (nil_both _ _ all.errors (nil_both _ _ all.unlevelled grammar.1))))
