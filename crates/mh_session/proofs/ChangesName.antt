-- Lemmas on a session of which one name changes.
use Rattle.std.proofs.Common.{◌≡◌, List, Option, Some, None, Bor, refl, sym, ap, subst, ◌∙◌, inl, inr}
use Rattle.std.specs.Prelude.{IfSome}
use Rattle.std.specs.Option.{option_copied}
use Rattle.std.specs.Map.{update}
use Rattle.std.proofs.lemmas.Bool.{cond-true, cond-false}
use Rattle.mh_grammar.proofs.TextEquality.{same_refl, same_cases}
use Rattle.mh_tables_core.specs.Table.{TableData}
use Rattle.mh_engine.specs.Positions.{Position}
use Rattle.mh_engine.specs.declared.checkpoint.Checkpoint.{Checkpoint}
use Rattle.mh_engine.specs.Branches.{Branch, HasPosition}
use Rattle.mh_grammar.specs.Text.{Text}
use Rattle.mh_session_branches.specs.Names.{same, at_name, without_name, with_name}
use Rattle.mh_session.specs.SessionState.{SessionState}
use Rattle.mh_session_branches.specs.Answers.{Branches}
use Rattle.mh_session_branches.proofs.WithoutName.{without_self, without_other}
use Rattle.mh_session.specs.Represents.{FitsBranch, Represents}
use Rattle.mh_session.specs.code.ChangesName.{ChangesName, HaveTable}

-- A position that the session has for a name is of the session's table.
pub of_table : (t : TableData) (held : List (Text × Position)) (name : Text) (o : Option (Bor Checkpoint)) → option_copied o ≡ at_name name held → HaveTable t held → IfSome o (λ c. c.now.table ≡ t)
of_table t held name None e all = tt
of_table t held name (Some c) e all = all name c.now (sym e)

-- If a name gets a new position in the session, and gets in the branches a branch with this position, then the session
-- still represents the branches.
pub puts_fit : (old new : SessionState) (bs : Branches) (name : Text) (b : Branch) (c : Position) → Represents old bs → ChangesName old name (Some c) new → HasPosition b c → c.table ≡ old.table → Represents new (with_name name b bs)
puts_fit old new bs name b c all put at is = λ q. elim (same_cases name q) [
  | inl e ↦ (
      let mine : at_name q (with_name name b bs) ≡ Some b = cond-true (same q name) (Some b) (at_name q (without_name name bs)) (ap (same q) e ∙ same_refl q) in
      let its : at_name q new.held ≡ Some c = put.held q ∙ cond-true (same name q) (Some c) (at_name q old.held) (ap (same name) (sym e) ∙ same_refl name) in
      rw (mine, its) (at, is ∙ sym put.table))
  | inr d ↦ (
      let mine : at_name q (with_name name b bs) ≡ at_name q bs = cond-false (same q name) (Some b) (at_name q (without_name name bs)) d.1 ∙ without_other q name bs d.1 in
      let its : at_name q new.held ≡ at_name q old.held = put.held q ∙ cond-false (same name q) (Some c) (at_name q old.held) d.0 in
      rw (mine, its, put.table) (all q))
]

pub removal_fits : (old new : SessionState) (bs : Branches) (name : Text) → Represents old bs → ChangesName old name None new → Represents new (without_name name bs)
removal_fits old new bs name all put = λ q. elim (same_cases name q) [
  | inl e ↦ (
      let mine : at_name q (without_name name bs) ≡ None = ap (λ (k : Text). at_name q (without_name k bs)) e ∙ without_self q bs in
      let its : at_name q new.held ≡ None = put.held q ∙ cond-true (same name q) None (at_name q old.held) (ap (same name) (sym e) ∙ same_refl name) in
      rw (mine, its) tt)
  | inr d ↦ (
      let mine : at_name q (without_name name bs) ≡ at_name q bs = without_other q name bs d.1 in
      let its : at_name q new.held ≡ at_name q old.held = put.held q ∙ cond-false (same name q) None (at_name q old.held) d.0 in
      rw (mine, its, put.table) (all q))
]

-- A name that the session has is a name with a branch.
pub branch_of_held : (t : TableData) (o : Option Branch) (c : Position) → FitsBranch t o (Some c) → (b : Branch) × (o ≡ Some b) × HasPosition b c × (c.table ≡ t)
branch_of_held t None c h = absurd h
branch_of_held t (Some b) c h = (b, refl, h.0, h.1)

pub no_branch : (t : TableData) (o : Option Branch) → FitsBranch t o None → o ≡ None
no_branch t None h = refl
no_branch t (Some b) h = absurd h

pub held_name_has_branch : (m : SessionState) (bs : Branches) (name : Text) (c : Position) → Represents m bs → at_name name m.held ≡ Some c → (b : Branch) × (at_name name bs ≡ Some b) × HasPosition b c × (c.table ≡ m.table)
held_name_has_branch m bs name c all e = branch_of_held m.table (at_name name bs) c (subst (λ (o : Option Position). FitsBranch m.table (at_name name bs) o) e (all name))

pub free_name_has_no_branch : (m : SessionState) (bs : Branches) (name : Text) → Represents m bs → at_name name m.held ≡ None → at_name name bs ≡ None
free_name_has_no_branch m bs name all e = no_branch m.table (at_name name bs) (subst (λ (o : Option Position). FitsBranch m.table (at_name name bs) o) e (all name))

-- If one name gets a position of the table, all positions are still of the table.
pub put_keeps_table : (t : TableData) (old new : List (Text × Position)) (name : Text) (c : Position) → HaveTable t old → ((q : Text) → at_name q new ≡ update same (λ k. at_name k old) name (Some c) q) → c.table ≡ t → HaveTable t new
put_keeps_table t old new name c all put is = λ q d e. elim (same_cases name q) [
  | inl s ↦ (let its : Some d ≡ Some c = sym e ∙ put q ∙ cond-true (same name q) (Some c) (at_name q old) (ap (same name) (sym s) ∙ same_refl name) in let same_one : d ≡ c = cc in ap (λ (p : Position). p.table) same_one ∙ is)
  | inr d' ↦ all q d (sym (cond-false (same name q) (Some c) (at_name q old) d'.0) ∙ sym (put q) ∙ e)
]

-- If one name loses its position, all positions are still of the table.
pub removal_keeps_table : (t : TableData) (old new : List (Text × Position)) (name : Text) → HaveTable t old → ((q : Text) → at_name q new ≡ update same (λ k. at_name k old) name None q) → HaveTable t new
removal_keeps_table t old new name all put = λ q d e. elim (same_cases name q) [
  | inl s ↦ (let its : Some d ≡ None = sym e ∙ put q ∙ cond-true (same name q) None (at_name q old) (ap (same name) (sym s) ∙ same_refl name) in cc)
  | inr d' ↦ all q d (sym (cond-false (same name q) None (at_name q old) d'.0) ∙ sym (put q) ∙ e)
]
