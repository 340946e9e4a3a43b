-- The preconditions of building the joined files: every name in the rules is defined, also the name `error`.
use Rattle.std.specs.Prelude.{◌≡◌, ◌≤◌, ◌++◌, [], ℕ, length, false, List, map, Option, Some, slice_get}
use Rattle.std.specs.List.{All, flat_map}
use Rattle.mh_rules.specs.Limits.{max_tokens}
use Rattle.mh_rules.specs.declared.modules.Ref.{Ref}
use Rattle.mh_rules.specs.declared.modules.Alternative.{Alternative}
use Rattle.mh_rules.specs.declared.modules.Rule.{Rule}
use Rattle.mh_rules.specs.declared.modules.Module.{Module}
use Rattle.mh_rules.specs.declared.joined.Head.{Head}
use Rattle.mh_rules.specs.declared.joined.JoinedRule.{JoinedRule}
use Rattle.mh_rules.specs.Depth.{AreProducersShallow}
use Rattle.mh_rules.specs.Ready.{AreModulesReady}
use Rattle.mh_join_names.specs.declared.fault.JoinFault.{JoinFault}
use Rattle.mh_join_names.specs.Names.{Definition, files, formal_number, definitions_in, prelude_definitions}
use Rattle.mh_join_names.specs.Faults.{Meanings, meant_by, undefined_in_actual, undefined_in_on_error, undefined_start}
use Rattle.mh_join_names.specs.declared.names.SymbolTables.{SymbolTables}
use Rattle.mh_join_names.specs.code.SymbolTables.{meanings_in}
use Rattle.mh_join_names.specs.Joining.{alternatives_for, without_alternatives}

abbrev pub unresolved : (Ref → Option Head) → Alternative → List JoinFault
unresolved meant a = flat_map (undefined_in_actual false meant) a.producers

abbrev pub unresolved_in_rule : Meanings → ℕ → Rule → List JoinFault
unresolved_in_rule w k r = flat_map (unresolved (meant_by w k (formal_number r.formals))) r.alternatives

abbrev pub unresolved_in_rules : Meanings → ℕ → List Rule → List JoinFault
unresolved_in_rules w k rs = flat_map (unresolved_in_rule w k) rs

abbrev pub unresolved_in_file : Meanings → ℕ × Module → List JoinFault
unresolved_in_file w f = unresolved_in_rules w f.0 f.1.rules

-- The new rules are the old rules with the alternatives of these definitions appended.
pub record AddsAlternatives (w : Meanings) (ds : List Definition) (old new : List JoinedRule) : Type 0 where
  pub outlines : map without_alternatives new ≡ map without_alternatives old
  pub alternatives : (i : ℕ) (s r : JoinedRule) → slice_get old i ≡ Some s → slice_get new i ≡ Some r → map Some r.alternatives ≡ map Some s.alternatives ++ flat_map (alternatives_for w i) ds

abbrev pub unresolved_on_error : Meanings → ℕ × Module → List JoinFault
unresolved_on_error w f = flat_map (undefined_in_on_error (meant_by w f.0 (formal_number []))) f.1.on_error

-- The files can be joined: they have no fault that would stop the building, and no actual in them or in the prelude is
-- too deep.
pub record CanJoin (n : SymbolTables) (ms : List Module) (from_prelude : List Rule) : Type 0 where
  pub few : length n.tokens.keys ≤ max_tokens
  pub starts : flat_map (undefined_start (meanings_in n)) (meanings_in n).starts ≡ []
  pub on_error : flat_map (unresolved_on_error (meanings_in n)) (files ms) ≡ []
  pub rules : flat_map (unresolved_in_file (meanings_in n)) (files ms) ≡ []
  pub prelude : unresolved_in_rules (meanings_in n) 0 from_prelude ≡ []
  pub files_ready : AreModulesReady ms
  pub prelude_shallow : All AreProducersShallow from_prelude

-- The definitions in these files and in this prelude.
abbrev pub definitions_by : SymbolTables → List Module → List Rule → List Definition
definitions_by n ms from_prelude = flat_map (definitions_in n.starts.keys) (files ms) ++ prelude_definitions from_prelude
