use Rattle.std.proofs.Common.{◌≡◌, ◌-◌}
use Rattle.mh_top_drive.specs.ModeBehavior.{max_lines}
use Rattle.mh_top_drive.proofs.AskLoop.{SoFar}
use Rattle.mh_top_drive.proofs.driving.ask.Given as goal

abbrev pub invariant-loop : goal.invariant-loop
invariant-loop g l = record {
  so_far : (plan : g.M.Mode.State) → g.M.Mode.Is l.fn.mode plan → (next : g.M.Mode.State) × g.M.Mode.Is l.mode next × SoFar g.M.Mode.behavior plan (max_lines l.asks - l.counter) (g.I.Source.left l.fn.input) (g.I.Source.left l.input) (g.O.Sink.written l.fn.out) (g.O.Sink.written l.out) next;
  asks : (plan : g.M.Mode.State) → g.M.Mode.Is l.fn.mode plan → l.asks ≡ g.M.Mode.behavior.asks_of plan;
  may_read : g.I.Source.MayRead l.input;
  may_write : g.O.Sink.MayWrite l.out;
  input_calm : g.I.Source.faults l.input ≡ g.I.Source.faults l.fn.input;
  out_calm : g.O.Sink.faults l.out ≡ g.O.Sink.faults l.fn.out;
}
