use Rattle.std.proofs.Common.{ℕ, Bool, List, ◌++◌, ap, ap₂, sym, ◌∙◌}
use Rattle.std.specs.Hash as fed
use Rattle.mh_sets.specs.BitWords.{bit_words_of, has_stream_end}
use Rattle.mh_sets.proofs.LooksOf.{words_is, has_stream_end-looks_of}
use Rattle.mh_sets.proofs.token_set.TokenSetHash.hash.Goals as goal

pub returns : goal.returns
returns g c =
    let words = ap (bit_words_of g.row.W) (sym c.self.view_is) ∙ words_is g.row.W c.self.inside.words c.self.inside.end c.self.invariant in
    let end = ap has_stream_end (sym c.self.view_is) ∙ has_stream_end-looks_of c.self.inside.words c.self.inside.end in
    fed.fed_along g.H.Hasher.write c.args.state.now c.hash-2.new.state
    (ap₂ (λ (w : List ℕ) (e : Bool). fed.slice fed.u64 w ++ fed.bool e) (sym words) (sym end))
    (fed.fed_then g.H.Hasher.write c.args.state.now c.hash.new.state c.hash-2.new.state (fed.slice fed.u64 c.self.inside.words) (fed.bool c.self.inside.end) c.hash.ensures c.hash-2.ensures)
