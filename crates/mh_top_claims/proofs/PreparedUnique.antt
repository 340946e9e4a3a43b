-- The result of the stages before the warnings is unique over known files.
use Rattle.std.proofs.Common.{◌≡◌, List, Some, sym, ◌∙◌, ap, subst}
use Rattle.mh_outside.specs.Shelf.{Files}
use Rattle.mh_grammar.specs.Text.{Text}
use Rattle.mh_top_drive.specs.StageResults.{StageResult, Go, Halt, AfterStage}
use Rattle.mh_top_drive.proofs.Then.{IsOne}
use Rattle.mh_top_load.specs.OrderAndGrammar.{IsOrderAndGrammar}
use Rattle.mh_top_claims.proofs.IsGrammarReady.{front_ready}
use Rattle.mh_top_claims.proofs.OrderAndGrammarUnique.{order_and_grammar_once}
use Rattle.mh_top_drive.specs.declared.front.OrderAndGrammar.{OrderAndGrammar}
use Rattle.mh_top_claims.proofs.TableUnique.{tabled_front_once}
use Rattle.mh_top_claims.specs.Preparing.{IsPrepared}
use Rattle.mh_top_prepare.specs.PreparedStage.{IsPreparedFromFiles}

pub prepared_once : (words : List Text) (files : Files) → IsOne (IsPrepared words (Some files))
prepared_once words files s r p q = at p.0 q.0 (order_and_grammar_once words files p.0 q.0 p.1 q.1) p.1 p.2 q.2
  where
    at : (f h : StageResult OrderAndGrammar) → f ≡ h → IsOrderAndGrammar words (Some files) f → AfterStage f (IsPreparedFromFiles (Some files)) s → AfterStage h (IsPreparedFromFiles (Some files)) r → s ≡ r
    at (Go front) (Go other) same is x y =
        let one : front ≡ other = cc in
        tabled_front_once files front (front_ready words (Some files) front is).distinct_names s r x (subst (λ (k : OrderAndGrammar). IsPreparedFromFiles (Some files) k r) (sym one) y)
    at (Go front) (Halt cause) same is x y = absurd (cc)
    at (Halt cause) (Go front) same is x y = absurd (cc)
    at (Halt cause) (Halt other) same is x y = let one : cause ≡ other = cc in x ∙ ap Halt one ∙ sym y
