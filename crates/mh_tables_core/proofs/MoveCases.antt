-- Proves that no state asks for a token while a token is left, that no state refuses if no token is left, and that no
-- reduction ends a run.
use Rattle.std.proofs.Common.{◌≡◌, ℕ, List, [], ◌∷◌, Some, None, Option}
use Rattle.mh_tables_core.specs.declared.parts.Action.{Action}
use Rattle.mh_tables_core.specs.declared.parts.Action.TheVariants as actions
use Rattle.mh_tables_core.specs.declared.parts.Fallback.{Fallback}
use Rattle.mh_tables_core.specs.declared.parts.Fallback.TheVariants as fallbacks
use Rattle.mh_tables_core.specs.Table.{TableData, cell_of, fallback_of}
use Rattle.mh_tables_core.specs.Run.{Config, Asks, Refuses, run_move_of, move_of_action, move_by_default, goes_to, Ending, Ends}

action_asks : (a : Action) → move_of_action a ≡ Asks → ⊥
action_asks (actions.Shift j) e = cc
action_asks (actions.Reduce p) e = cc
action_asks actions.Refuse e = cc

default_asks : (f : Option Fallback) (a : Action) → move_by_default f (move_of_action a) ≡ Asks → ⊥
default_asks None a e = action_asks a e
default_asks (Some fallbacks.Accept) a e = cc
default_asks (Some (fallbacks.Reduce p)) a e = cc

pub no_ask_with_token : (t : TableData) (s z : ℕ) (rest : List ℕ) → run_move_of t s (z ∷ rest) ≡ Asks → ⊥
unfolding run_move_of
no_ask_with_token t s z rest e = default_asks (fallback_of t s) (cell_of t s z) e

default_refuses : (f : Option Fallback) → move_by_default f Asks ≡ Refuses → ⊥
default_refuses None e = cc
default_refuses (Some fallbacks.Accept) e = cc
default_refuses (Some (fallbacks.Reduce p)) e = cc

pub no_refusal_at_end : (t : TableData) (s : ℕ) → run_move_of t s [] ≡ Refuses → ⊥
unfolding run_move_of
no_refusal_at_end t s e = default_refuses (fallback_of t s) e

pub goes_to_no_end : (c : Config) (o : Option (List ℕ)) (how : Ending) → goes_to c o ≡ Ends how → ⊥
goes_to_no_end c None how e = cc
goes_to_no_end c (Some stack) how e = cc
