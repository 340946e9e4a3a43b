-- The headline claim on a list of errors, for a call over what a caller gives (after Pottier 2016, "Reachability and
-- error diagnosis in LR(1) parsers").
use Rattle.std.specs.Prelude.{◌≡◌, ℕ, Some, Ok}
use Rattle.mh_grammar.specs.Text.{Text}
use Rattle.mh_grammar.specs.declared.types.Grammar.{Grammar}
use Rattle.mh_items_kernels.specs.KernelTypes.{Automaton}
use Rattle.mh_opts.specs.Orders.{order_of}
use Rattle.mh_opts.specs.declared.order.Order.{Order}
use Rattle.mh_opts.specs.declared.jobs.Job.TheVariants.{ListErrors}
use Rattle.mh_tables_core.specs.Table.{TableData}
use Rattle.mh_top_claims.specs.GivesTable.{GivesTable}
use Rattle.mh_top_claims.specs.Headline.{ListsErrorStates}
use Rattle.mh_page.specs.Given.{Given}
use Rattle.mh_page.specs.Rooms.{Holds}

-- Claim: if the words ask for the list of errors and the status is 0, the room for out holds the list: the entries of
-- exactly the states in which some sentence is refused by the table of the grammar.
abbrev pub HoldsErrorList : Given → Text → Text → ℕ → ℕ → Type 0
HoldsErrorList g out_old out_new out_len status = (order : Order) → order_of g.words ≡ Ok order → order.job ≡ ListErrors → status ≡ 0 →
    (grammar : Grammar) × (a : Automaton) × (t : TableData) × GivesTable g.words (Some g.files) order grammar a t
    × ((text : Text) × ListsErrorStates order.comment_expected grammar a t text × Holds text out_old out_new out_len)
