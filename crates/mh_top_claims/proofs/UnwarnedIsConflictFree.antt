-- A grammar without levels of precedence and without warnings has an automaton without conflicts.
use Rattle.std.proofs.Common.{◌≡◌, ℕ, zero, suc, ◌<◌, List, [], ◌∷◌, Option, Some, None, refl, ap, sym, ◌∙◌, subst, arith, inl, inr}
use Rattle.std.specs.List.{slice_get}
use Rattle.std.specs.Option.{option_and_then}
use Rattle.std.proofs.lemmas.Bool.{cases_lt}
use Rattle.std.proofs.lemmas.Option.{slice_get_within, get_or_from_slice_get}
use Rattle.mh_grammar.specs.declared.types.Grammar.{Grammar}
use Rattle.mh_grammar.specs.declared.types.Level.{Level}
use Rattle.mh_grammar.specs.declared.types.TokenInfo.{TokenInfo}
use Rattle.mh_grammar.specs.declared.types.Look.{Look}
use Rattle.mh_grammar.specs.declared.types.Look.TheVariants.{Token, End}
use Rattle.mh_grammar.specs.ItemSets.{ItemSet}
use Rattle.mh_items_kernels.specs.KernelTypes.{Automaton}
use Rattle.mh_report_notation.specs.Warnings.{warning_title, warning_line}
use Rattle.mh_report.specs.Warnings.{warning_lines}
use Rattle.mh_tables_core.specs.declared.parts.Action.{Action}
use Rattle.mh_tables_core.specs.declared.parts.Action.TheVariants.{Shift, Reduce, Refuse}
use Rattle.mh_resolve_cells.specs.declared.conflicts.Conflict.{Conflict}
use Rattle.mh_resolve_cells.specs.declared.kinds.ConflictKind.{ConflictKind}
use Rattle.mh_resolve_cells.specs.declared.kinds.ConflictKind.TheVariants.{Solved, Unsolved, Stream}
use Rattle.mh_resolve_cells.specs.Cells.{HasTwoReductions, IsConflict, IsUnsolved}
use Rattle.mh_resolve_cells.specs.NoConflicts.{HasNoConflicts}
use Rattle.mh_resolve_cells.specs.Conflicts.{AreConflicts, IsConflictOf}
use Rattle.mh_resolve_cells.specs.Precedence.{comparison_on, comparison, look_level, production_level}
use Rattle.mh_resolve_cells.specs.States.{Raw, RawOf, shift_on, state_of}
use Rattle.mh_grammar.proofs.Lists.{at_contains, nil_parts}
use Rattle.mh_top_claims.specs.VerdictClaims.{HasNoLevels}

-- ---- Without levels, no comparison has a result.

level_none : (x : Option TokenInfo) → ((t : TokenInfo) → x ≡ Some t → t.level ≡ None) → option_and_then (λ (t : TokenInfo). t.level) x ≡ None
level_none None each = refl
level_none (Some t) each = each t refl

no_look_level : (g : Grammar) → HasNoLevels g → (look : Look) → look_level g look ≡ None
no_look_level g none (Token z) =
    level_none (slice_get g.tokens z)
    (λ t at. subst (λ (x : TokenInfo). x.level ≡ None) (get_or_from_slice_get g.tokens z t t at) (none z t (slice_get_within g.tokens z t at)))
no_look_level g none End = refl

-- If the second level is missing, the comparison is the same as if both are missing.
comparison_unknown : (p t : Option Level) → t ≡ None → comparison p t ≡ comparison None None
comparison_unknown None t e = refl
comparison_unknown (Some p) None e = refl
comparison_unknown (Some p) (Some t) e = absurd (cc)

unknown : (g : Grammar) → HasNoLevels g → (look : Look) (p : ℕ) → comparison_on g look p ≡ comparison None None
unknown g none look p = comparison_unknown (production_level g p) (look_level g look) (no_look_level g none look)

-- ---- Without levels, no conflict is solved by levels.

module _ (g : Grammar) (none : HasNoLevels g) (items : ItemSet) (look : Look) where
  no_shift : (j : ℕ) → RawOf g items look None (Shift j) → ⊥
  no_shift j e = let f : None ≡ Some j = e in cc

  two : (p q : ℕ) → RawOf g items look None (Reduce p) → RawOf g items look None (Reduce q) → p < q → HasTwoReductions (comparison_on g look) (RawOf g items look None)
  two p q r h lt = record {
    one = p;
    other = q;
    one_remains = (r, λ j e. absurd (no_shift j e));
    other_remains = (h, λ j e. absurd (no_shift j e));
    below = lt;
  }

  unsolved_pair : (shift : Option ℕ) (x y : Action) → RawOf g items look shift x → RawOf g items look shift y → (x ≡ y → ⊥) → IsUnsolved (comparison_on g look) (RawOf g items look shift)
  unsolved_pair shift (Shift i) (Shift j) e f n = absurd (n (let one : Some i ≡ Some j = sym e ∙ f in let same : i ≡ j = cc in ap Shift same))
  unsolved_pair shift (Shift i) (Reduce p) e r n = inl (record { target = i; production = p; shift = e; reduce = r; unknown = unknown g none look p })
  unsolved_pair shift (Shift i) Refuse e r n = absurd r
  unsolved_pair shift (Reduce p) (Shift i) r e n = inl (record { target = i; production = p; shift = e; reduce = r; unknown = unknown g none look p })
  unsolved_pair (Some j) (Reduce p) (Reduce q) r h n = inl (record { target = j; production = p; shift = refl; reduce = r; unknown = unknown g none look p })
  unsolved_pair None (Reduce p) (Reduce q) r h n =
      elim (cases_lt p q) [
        | inl lt ↦ inr (two p q r h lt)
        | inr ge ↦ elim (cases_lt q p) [
          | inl lt ↦ inr (two q p h r lt)
          | inr le ↦ absurd (n (let same : p ≡ q = omega arith in ap Reduce same))
        ]
      ]
  unsolved_pair shift (Reduce p) Refuse r h n = absurd h
  unsolved_pair shift Refuse y r h n = absurd r

-- ---- Each conflict that levels do not solve has a warning.

title_said : warning_title ≡ [] → ⊥
unfolding warning_title
title_said e = cc

silent : (g : Grammar) (s : ℕ) (look : Look) (kind : ConflictKind) → warning_line g s look kind ≡ [] → kind ≡ Solved
silent g s look Solved e = refl
silent g s look Unsolved e = absurd (title_said (nil_parts warning_title _ e).0)
silent g s look Stream e = absurd (title_said (nil_parts warning_title _ e).0)

all_silent : (g : Grammar) (cs : List Conflict) → warning_lines g cs ≡ [] → (n : ℕ) (c : Conflict) → slice_get cs n ≡ Some c → c.kind ≡ Solved
all_silent g [] e n c at = absurd (cc)
all_silent g (x ∷ cs) e zero c at =
    let same : x ≡ c = cc in
    subst (λ (y : Conflict). y.kind ≡ Solved) same (silent g x.state x.look x.kind (nil_parts (warning_line g x.state x.look x.kind) (warning_lines g cs) e).0)
all_silent g (x ∷ cs) e (suc n) c at = all_silent g cs (nil_parts (warning_line g x.state x.look x.kind) (warning_lines g cs) e).1 n c at

pub unwarned_has_no_conflict : (g : Grammar) (a : Automaton) (cs : List Conflict) → AreConflicts g a cs → HasNoLevels g → warning_lines g cs ≡ [] → HasNoConflicts g a
unwarned_has_no_conflict g a cs are none e s lt = record { no_conflict = one; no_stream_conflict = λ x. not_solved (record { state = s; look = End; kind = Stream }) (λ same. cc) (lt, (refl, x)) }
  where
    not_solved : (c : Conflict) → (c.kind ≡ Solved → ⊥) → IsConflictOf g a c → ⊥
    not_solved c not is = let at = at_contains cs c ((are.members c).1 is) in not (all_silent g cs e at.0 c at.1)

    one : (look : Look) → IsConflict (Raw (state_of g a s) look) → ⊥
    one look x =
        not_solved (record { state = s; look = look; kind = Unsolved }) (λ same. cc)
        (lt, unsolved_pair g none (state_of g a s).items look (shift_on (state_of g a s).edges look) x.one x.other x.raw_one x.raw_other x.differ)
