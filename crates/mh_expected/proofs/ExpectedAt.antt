-- Proves that, if a checkpoint asks for a token, the run on the tokens of its branch asks for a token on the same
-- stack.
use Rattle.std.proofs.Common.{◌≡◌, ℕ, List, [], ◌∷◌, Bool, true, false, refl, ap, sym, subst, ◌∙◌}
use Rattle.mh_tables_core.specs.Table.{TableData}
use Rattle.mh_tables_core.specs.Run.{Config, RunMove, Accepts, Asks, Refuses, Shifts, Reduces, initial, run_move_of, top_of, after}
use Rattle.mh_tables_core.proofs.MoveCases.{no_ask_with_token}
use Rattle.mh_run.proofs.RunProgress.{at}
use Rattle.mh_engine.specs.Positions.{Position}
use Rattle.mh_engine.specs.Phases.{next_move, phase_of, phase_by, phase_if_refused, CanOffer}
use Rattle.mh_engine.specs.Branches.{Branch, HasPosition}
use Rattle.mh_expected.specs.Expected.{ExpectedTokens}
use Rattle.mh_expected.specs.code.Trials.{AreTried, AsksOn}
use Rattle.mh_expected.proofs.ExpectedTokens.{all_expected}

asking_by : (m : RunMove) (s : ℕ) (left : List ℕ) → CanOffer (phase_by m s left) → m ≡ Asks
asking_by Accepts s left g = absurd g
asking_by Asks s left g = refl
asking_by Refuses s left g = absurd g
asking_by (Shifts j) s left g = absurd g
asking_by (Reduces p) s left g = absurd g

asking_where : (b : Bool) (c : Position) → CanOffer (phase_if_refused b c) → next_move c ≡ Asks
asking_where true c g = absurd g
asking_where false c g = asking_by (next_move c) (top_of c.pairs.states) c.left g

asking : (c : Position) → CanOffer (phase_of c) → next_move c ≡ Asks
unfolding phase_of
asking c g = asking_where c.refused c g

none_left : (t : TableData) (s : ℕ) (left : List ℕ) → run_move_of t s left ≡ Asks → left ≡ []
none_left t s [] e = refl
none_left t s (z ∷ rest) e = absurd (no_ask_with_token t s z rest e)

pub asks_at : (b : Branch) (c : Position) → HasPosition b c → CanOffer (phase_of c) → AsksOn c.table b.start b.offered c.pairs.states
asks_at b c h g =
    let run : Config = after c.table b.resumes (initial b.start b.offered) in
    let states : c.pairs.states ≡ run.stack = ap (λ (p : Position). p.pairs.states) h.position in
    let left : c.left ≡ run.left = ap (λ (p : Position). p.left) h.position in
    let none : c.left ≡ [] = none_left c.table (top_of c.pairs.states) c.left (asking c g) in
    record {
      steps = b.resumes;
      read = run.read;
      reaches = ap (λ (s : List ℕ). at s run.read run.left) (sym states) ∙ ap (at c.pairs.states run.read) (sym left ∙ none);
      asks = subst (λ (l : List ℕ). run_move_of c.table (top_of c.pairs.states) l ≡ Asks) none (asking c g);
    }

pub expected_there : (t : TableData) (c : Position) (states list : List ℕ) → t ≡ c.table → states ≡ c.pairs.states → CanOffer (phase_of c) → AreTried t states list t.grammar.tokens → (b : Branch) → HasPosition b c → ExpectedTokens t b.start b.offered list
expected_there t c states list e s g h b at_b =
    let asks : AsksOn t b.start b.offered states = subst (λ (x : TableData). AsksOn x b.start b.offered states) (sym e) (subst (AsksOn c.table b.start b.offered) (sym s) (asks_at b c at_b g)) in
    all_expected t b.start b.offered states list asks h
