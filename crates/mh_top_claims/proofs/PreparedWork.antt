-- If the stages before the warnings give a table for another mode than the examination of grammar files, the work is
-- the work after these stages.
use Rattle.std.proofs.Common.{◌≡◌, List, Option, sym, ap, ◌∙◌}
use Rattle.mh_grammar.specs.Text.{Text}
use Rattle.mh_opts.specs.declared.jobs.Job.TheVariants.{Check}
use Rattle.mh_opts.specs.declared.order.Order.{Order}
use Rattle.mh_outside.specs.Shelf.{Files}
use Rattle.mh_top_drive.specs.StageResults.{Go}
use Rattle.mh_top_load.specs.Order.{staged_order}
use Rattle.mh_top_load.specs.OrderAndGrammar.{IsOrderAndGrammar}
use Rattle.mh_top_drive.specs.declared.front.OrderAndGrammar.{OrderAndGrammar}
use Rattle.mh_top_claims.specs.Preparing.{IsPrepared}
use Rattle.mh_top_claims.proofs.IsGrammarReady.{front_order}
use Rattle.mh_top_claims.specs.Work.{Examining, IsPreparedWork, IsWork, NeedsTable, WithTable, Work}
use Rattle.mh_top_claims.proofs.PreparedSource.{made}
use Rattle.mh_top_drive.specs.Shapes.{Prepared}

-- The order that the words spell is the only one.
pub order_needs : (words : List Text) (spelled : Order) → staged_order words ≡ Go spelled → (spelled.job ≡ Check → ⊥) → NeedsTable words
order_needs words spelled is other order on job =
    let same : Go order ≡ Go spelled = sym on ∙ is in
    let one : order ≡ spelled = cc in
    other (ap (λ (o : Order). o.job) (sym one) ∙ job)

pub front_needs : (words : List Text) (files : Option Files) (front : OrderAndGrammar) → IsOrderAndGrammar words files (Go front) → (front.order.job ≡ Check → ⊥) → NeedsTable words
front_needs words files front is = order_needs words front.order (front_order words files front is)

pub tabled_work : (words : List Text) (files : Option Files) → NeedsTable words → (w : Work) → IsWork words files w → IsPreparedWork words files w
tabled_work words files needs w (WithTable same is) = is
tabled_work words files needs w (Examining order on job is) = absurd (needs order on job)

module _ (words : List Text) (files : Option Files) (p : Prepared) (prepared : IsPrepared words files (Go p)) (other : p.order.job ≡ Check → ⊥) where
  pub needs_table : NeedsTable words
  needs_table = order_needs words p.order (made words files p prepared).order other

  pub prepared_work : (w : Work) → IsWork words files w → IsPreparedWork words files w
  prepared_work = tabled_work words files needs_table

pub job_needs : (words : List Text) (files : Option Files) (p : Prepared) → IsPrepared words files (Go p) → NeedsTable words → p.order.job ≡ Check → ⊥
job_needs words files p prepared needs = needs p.order (made words files p prepared).order
