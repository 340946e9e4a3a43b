use Rattle.std.proofs.Common.{◌≡◌, ◌-◌, ◌≤◌, length}
use Rattle.std.specs.Io.KnownBytes.{Consumes}
use Rattle.mh_outside.specs.Lines.{HasNoLF}
use Rattle.mh_outside.proofs.lines.take_line.Given as goal

abbrev pub invariant-loop-line : goal.invariant-loop-line
invariant-loop-line g l =
    record {
      taken : Consumes (g.S.Source.left l.fn.source) (g.S.Source.left l.source) l.line.items;
      no_end : HasNoLF l.line.items;
      fits : length l.line.items ≤ l.limit;
      may : g.S.Source.MayRead l.source;
      calm : g.S.Source.faults l.source ≡ g.S.Source.faults l.fn.source;
    }

abbrev pub decreases-loop-line : goal.decreases-loop-line
decreases-loop-line g l = l.limit - length l.line.items
