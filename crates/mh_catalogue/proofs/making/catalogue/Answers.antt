use Rattle.std.proofs.Common.{subst}
use Rattle.mh_tables_core.specs.Table.{TableData}
use Rattle.mh_catalogue.specs.Rows.{IsCatalogueResult}
use Rattle.mh_catalogue.proofs.making.catalogue.Goals as goal

pub returns-in-Ok-clause-ok : goal.returns-in-Ok-clause-ok
returns-in-Ok-clause-ok c = (subst (λ (t : TableData). IsCatalogueResult t c.all_rows.result) c.in-Ok.ensures c.all_rows.ensures).ok

pub returns-in-Ok-clause-short : goal.returns-in-Ok-clause-short
returns-in-Ok-clause-short c = (subst (λ (t : TableData). IsCatalogueResult t c.all_rows.result) c.in-Ok.ensures c.all_rows.ensures).short

pub returns-in-Ok-clause-none : goal.returns-in-Ok-clause-none
returns-in-Ok-clause-none c = (subst (λ (t : TableData). IsCatalogueResult t c.all_rows.result) c.in-Ok.ensures c.all_rows.ensures).none_too_long

pub returns-in-Ok-clause-too_long : goal.returns-in-Ok-clause-too_long
returns-in-Ok-clause-too_long c = (subst (λ (t : TableData). IsCatalogueResult t c.all_rows.result) c.in-Ok.ensures c.all_rows.ensures).too_long
