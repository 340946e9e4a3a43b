-- The invariant of the depth-first search: `lowest` and `ranks` have an entry for each instance, and the other lists
-- hold numbers of instances.
use Rattle.std.specs.Prelude.{◌≡◌, ◌<◌, ℕ, length}
use Rattle.std.specs.List.{All}
use Rattle.mh_inline.specs.declared.depth.Visit.{Visit}
use Rattle.mh_inline.specs.declared.depth.DepthSearch.{DepthSearch}

abbrev pub IsVisitBelow : ℕ → Visit → Type 0
IsVisitBelow count v = v.number < count

pub record IsDepthSearch (count : ℕ) (s : DepthSearch) : Type 0 where
  pub lowest : length s.lowest.items ≡ count
  pub ranks : length s.ranks.items ≡ count
  pub visits : All (IsVisitBelow count) s.stack.items
  pub open_ones : All (λ n. n < count) s.open.items
  pub finished : All (λ n. n < count) s.finished.items
