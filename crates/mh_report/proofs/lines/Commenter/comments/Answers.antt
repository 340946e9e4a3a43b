use Rattle.mh_report.proofs.lines.Commenter.comments.Goals as goal

pub returns-then-not-self : goal.returns-then-not-self
returns-then-not-self g c = rw c.if-not-self.true c.in_ok-text.ensures

pub returns : goal.returns
returns g c = let line = c.in_ok-write_expected.ensures in rw c.if-not-self.false (c.in_ok-text.text.items, c.in_ok-text.ensures, line.0, line.1, line.2)
