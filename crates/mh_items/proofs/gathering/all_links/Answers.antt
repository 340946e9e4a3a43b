use Rattle.std.proofs.Common.{◌≡◌, List, [], length, ap, ◌∙◌, arith}
use Rattle.std.proofs.lemmas.List.Elements.{All-contains}
use Rattle.mh_grammar.proofs.Lists.{contains_at}
use Rattle.mh_grammar.specs.Plain.{plain_of}
use Rattle.mh_items.specs.declared.links.FirstLink.{FirstLink}
use Rattle.mh_items.specs.Firsts.{IsFirstLink}
use Rattle.mh_items.proofs.IsStringFirst.{LinksSoFar-start, LinksSoFar-skip, LinksSoFar-all}
use Rattle.mh_items.proofs.AreFirsts.{has_row, links_set}
use Rattle.mh_items.proofs.gathering.all_links.Goals as goal
use Rattle.mh_items.proofs.gathering.all_links.Goals.{in-Some+in_ok-push, in_default}

pub loop-production-init : goal.loop-production-init
loop-production-init gg c =
    let rows = c.in_ok-rows.rows.items in
    record {
      len = c.in_ok-rows.ensures.len ∙ c.len.ensures;
      links = λ n row at. (let none : row ≡ [] = All-contains (λ (r : List (FirstLink gg.row.W)). r ≡ []) rows row c.in_ok-rows.ensures.empty (contains_at rows n row at) in rw none (LinksSoFar-start (plain_of c.args.grammar.now) n));
    }

pub loop-production-preserved : goal.loop-production-preserved
loop-production-preserved gg c =
    let g = plain_of c.args.grammar.now in
    let i = c.loop-production.production-index in
    let p = c.production-item.result in
    let rows = c.loop-production.rows in
    let links = c.loop-production.invariant.links in
    let here = has_row g c.requires.fits.range _ c.as_slice-production-items.ensures (length rows.items) i p (omega (arith, c.loop-production.invariant.len, rows.ok.0)) c.loop-production-test.true c.production-item.is in
    let found = rw c.as_slice.ensures at (c.link_of.ensures g c.requires.sets) in
    elim c.match-link_of.branch [
      | in-Some+in_ok-push w ↦
          (let link = w.in-Some.link in
          let is : IsFirstLink g p.rhs link = rw w.in-Some.is at found in
          record {
            len = rw w.rows-is c.loop-production.invariant.len;
            links = rw (w.rows-is, w.in_ok-push.ensures.ok, w.from.ensures) (links_set g c.requires.fits.range rows.items i p w.index_mut.result.now link here.at is here.within (rw w.from.ensures at w.index_mut.ensures.value) links);
          })
      | in_default w ↦
          (let none = rw w.in_default.is at found in
          record {
            len = rw w.rows-is c.loop-production.invariant.len;
            links = rw w.rows-is (λ n row read. LinksSoFar-skip g c.requires.fits.range n row i p (links n row read) here.at (λ _. none));
          })
    ]

pub returns-clause-exact : goal.returns-clause-exact
returns-clause-exact gg c =
    let g = plain_of c.args.grammar.now in
    λ n row at. LinksSoFar-all g n row c.loop-production.production-index
    (let same = ap length c.as_slice-production-items.ensures in omega (arith, c.loop-production.auto.production-index-end, c.loop-production-test.false)) (c.loop-production.invariant.links n row (rw c.from_vec.ensures at at))
