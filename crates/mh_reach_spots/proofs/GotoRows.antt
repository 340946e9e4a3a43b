-- Lemmas on the goto facts of the first search, filed by their beginnings.
use Rattle.std.proofs.Common.{◌≡◌, ◌∙◌, ◌<◌, ◌+◌, inl, inr, ℕ, List, [], ◌∷◌, length, get_or, Option, Some, None, refl, sym, ap, subst}
use Rattle.std.specs.Prelude.{slice_get}
use Rattle.std.specs.List.{Contains}
use Rattle.std.specs.Global.{Vec}
use Rattle.mh_grammar.specs.declared.types.Symbol.TheVariants.{N}
use Rattle.mh_grammar.proofs.Lists.{at_contains, contains_at, contains_cases, contains_here, contains_none}
use Rattle.mh_tables_core.specs.Table.{TableData, edge_of}
use Rattle.mh_tables_core.specs.Facts.{Facts}
use Rattle.mh_facts.specs.Costs.{cap}
use Rattle.mh_facts.specs.declared.goto_fact.GotoFact.{GotoFact}
use Rattle.mh_facts.specs.declared.classes.TokenClasses.{TokenClasses}
use Rattle.mh_facts.specs.code.Queues.{AddsToRow, ListGains, items_of, row_of}
use Rattle.mh_facts.specs.code.TokenClasses.{place_of, rep_of}
use Rattle.mh_facts.proofs.QueueRows.{row_is}
use Rattle.mh_facts.proofs.ListGains.{FirstOf, collects_by, firsts_all, firsts_begin, firsts_next}
use Rattle.mh_reach_rests.specs.declared.settled.SettledWord.{SettledWord}
use Rattle.mh_reach_rests.specs.declared.settled.SettledWords.{SettledWords}
use Rattle.mh_reach_rests.specs.declared.settling.RestsFound.{RestsFound}
use Rattle.mh_reach_rests.specs.declared.sought.Sought.{Sought}
use Rattle.mh_reach_rests.specs.declared.sought.Sought.TheVariants as soughts
use Rattle.mh_reach_rests.specs.declared.waiting.SettledGoto.{SettledGoto}
use Rattle.mh_reach_rests.specs.code.ClosedRests.{GotoWords}
use Rattle.mh_reach_rests.specs.code.RestLevels.{IsRestsResult}
use Rattle.mh_reach_rests.specs.code.RestRules.{IsGotoInRange, gotos_in}
use Rattle.mh_reach_rests.specs.code.RestSearch.{goto, gotos_of, rests_of}
use Rattle.mh_reach_rests.specs.code.SettledWords.{goto_at, settled_at}
use Rattle.mh_reach_rests.proofs.ClosedRests.{find_least_gotos}
use Rattle.mh_reach_spots.specs.declared.goto_rows.NumberedGoto.{NumberedGoto}
use Rattle.mh_reach_spots.specs.code.GotoRows.{FilesGotos, FilesRows, HasGotoWord, HasGotos, IsFiled, IsFiledFrom, IsFiledOfRow, IsNumberedGoto, number_in, numbered_goto}

module _ (c : TokenClasses) (settled : SettledWords) where
  -- One goto fact is filed.
  pub files_one : (g : SettledGoto) (old new : List (Vec NumberedGoto)) → AddsToRow old new (place_of c g.fact.from g.fact.first) (numbered_goto settled g) → FilesGotos c settled (g ∷ []) old new
  files_one g old new a = record {
    len = a.rows;
    rows = λ n. record {
      kept = λ w there. a.kept n w there;
      all = λ w p. elim (contains_cases g [] p.0 p.1) [
        | inl is ↦ (let filed : IsFiled c settled n g w = rw is p.2 in rw (filed.0, filed.1) a.added)
        | inr none ↦ absurd (contains_none p.0 none)
      ];
      only = λ w there. elim (a.only n w there) [ inl was ↦ inl was | inr is ↦ inr (g, contains_here g [], is) ];
    };
  }

  filed_one : (n : ℕ) (g : SettledGoto) (old new : List NumberedGoto) → ListGains (IsFiledFrom c settled n (g ∷ [])) old new → ListGains (IsFiled c settled n g) old new
  filed_one n g old new h = collects_by (IsFiledFrom c settled n (g ∷ [])) (IsFiled c settled n g) old new
      (λ w p. elim (contains_cases g [] p.0 p.1) [ inl is ↦ rw is p.2 | inr none ↦ absurd (contains_none p.0 none) ])
      (λ w p. (g, contains_here g [], p))
      h

  -- The first goto facts of a list are filed.
  pub record FilesFirst (gotos : List SettledGoto) (count : ℕ) (old new : List (Vec NumberedGoto)) : Type 0 where
    pub len : length new ≡ length old
    pub rows : (n : ℕ) → ListGains (FirstOf (IsFiled c settled n) gotos count) (row_of old n) (row_of new n)

  module _ (gotos : List SettledGoto) (old : List (Vec NumberedGoto)) where
    pub first_files_begin : FilesFirst gotos 0 old old
    first_files_begin = record { len = refl; rows = λ n. firsts_begin (IsFiled c settled n) gotos (row_of old n) }

    pub first_files_next : (count : ℕ) (d : SettledGoto) (mid new : List (Vec NumberedGoto)) → count < length gotos → FilesFirst gotos count old mid → FilesGotos c settled (get_or gotos count d ∷ []) mid new → FilesFirst gotos (count + 1) old new
    first_files_next count d mid new lt h more = record {
      len = more.len ∙ h.len;
      rows = λ n. firsts_next (IsFiled c settled n) gotos count d (row_of old n) (row_of mid n) (row_of new n) lt (h.rows n) (filed_one n (get_or gotos count d) (row_of mid n) (row_of new n) (more.rows n));
    }

    pub first_files_all : (count : ℕ) (new : List (Vec NumberedGoto)) → count ≡ length gotos → FilesFirst gotos count old new → FilesGotos c settled gotos old new
    first_files_all count new e h = record { len = h.len; rows = λ n. firsts_all (IsFiled c settled n) gotos count (row_of old n) (row_of new n) e (h.rows n) }

  -- The goto facts of the first rows are filed.
  pub record FilesFirstRows (from : List (Vec SettledGoto)) (count : ℕ) (old new : List (Vec NumberedGoto)) : Type 0 where
    pub len : length new ≡ length old
    pub rows : (n : ℕ) → ListGains (FirstOf (IsFiledOfRow c settled n) from count) (row_of old n) (row_of new n)

  module _ (from : List (Vec SettledGoto)) (old : List (Vec NumberedGoto)) where
    pub first_rows_begin : FilesFirstRows from 0 old old
    first_rows_begin = record { len = refl; rows = λ n. firsts_begin (IsFiledOfRow c settled n) from (row_of old n) }

    pub first_rows_next : (count : ℕ) (row : Vec SettledGoto) (mid new : List (Vec NumberedGoto)) → count < length from → row ≡ get_or from count row → FilesFirstRows from count old mid → FilesGotos c settled row.items mid new → FilesFirstRows from (count + 1) old new
    first_rows_next count row mid new lt is h more =
        let more' : FilesGotos c settled (get_or from count row).items mid new = subst (λ (v : Vec SettledGoto). FilesGotos c settled v.items mid new) is more in
        record {
          len = more'.len ∙ h.len;
          rows = λ n. firsts_next (IsFiledOfRow c settled n) from count row (row_of old n) (row_of mid n) (row_of new n) lt (h.rows n) (more'.rows n);
        }

    pub first_rows_all : (count : ℕ) (new : List (Vec NumberedGoto)) → count ≡ length from → FilesFirstRows from count old new → FilesRows c settled from old new
    first_rows_all count new e h = record { len = h.len; rows = λ n. firsts_all (IsFiledOfRow c settled n) from count (row_of old n) (row_of new n) e (h.rows n) }

-- What is in a row of a list of rows is in some row of the list, and the other way round.

row_listed : {X : Type 0} (rows : List (Vec X)) (n : ℕ) (x : X) → Contains (row_of rows n) x → (row : Vec X) × Contains rows row × Contains row.items x
row_listed {X} rows n x there = by (slice_get rows n) refl there
  where
    by : (o : Option (Vec X)) → slice_get rows n ≡ o → Contains (items_of o) x → (row : Vec X) × Contains rows row × Contains row.items x
    by None e there = absurd (contains_none x there)
    by (Some row) e there = (row, contains_at rows n row e, there)

listed_row : {X : Type 0} (rows : List (Vec X)) (row : Vec X) (x : X) → Contains rows row → Contains row.items x → (n : ℕ) × Contains (row_of rows n) x
listed_row rows row x in_rows there = let at = at_contains rows row in_rows in (at.0, rw at.1 there)

-- The goto facts of a row of the first search are in range.
pub row_in_range : (t : TableData) (c : TokenClasses) (found : RestsFound) → IsRestsResult t c found → (n : ℕ) (row : Vec SettledGoto) → n < length found.work.gotos.items → row ≡ get_or found.work.gotos.items n row → (g : SettledGoto) → Contains row.items g → IsGotoInRange t g
row_in_range t c found h n row lt is g there =
    let at : Contains (get_or found.work.gotos.items n row).items g = subst (λ (v : Vec SettledGoto). Contains v.items g) is there in
    h.rows.each_goto n g (rw (row_is found.work.gotos.items n row lt) at)

module _ (t : TableData) (f : Facts t) (c : TokenClasses) (found : RestsFound) (h : IsRestsResult t c found) (old rows : List (Vec NumberedGoto)) (len : length old ≡ c.places) (none : (n : ℕ) → row_of old n ≡ []) (files : FilesRows c found.settled found.work.gotos.items old rows) where
  abbrev words : GotoWords
  words = gotos_of h.assignment.words

  -- A goto fact that is settled, with the number of its word.
  goto_numbered : (m : ℕ) (g : SettledGoto) → Contains (gotos_in found.work m) g → IsNumberedGoto t (rep_of c) found.words.book words (numbered_goto found.settled g)
  goto_numbered m g there =
      let range = h.rows.each_goto m g there in
      let e = h.gotos_only m g there in
      let k = h.assignment.some (soughts.Goto g.fact) e.0 e.1 in
      let number : number_in (goto_at found.settled.gotos g.fact) ≡ (e.0).word = ap number_in e.1 in
      record {
        few = range.most;
        edge = range.edge;
        next = range.next;
        word = k.word;
        stored = k.is;
        cost_is = sym e.2 ∙ k.cost_is;
        numbered = λ lt. (let cheap : (e.0).cost < cap = rw e.2 lt in let num = k.numbered cheap in rw number (record { known = num.known; is = num.letters }));
        sound = h.sound (soughts.Goto g.fact) k.word k.is g.target range.edge;
      }

  settled_word : (k : Sought) (v : List ℕ) → h.assignment.words k ≡ Some v → (e : SettledWord) × (settled_at found.settled k ≡ Some e)
  settled_word k v is = by (settled_at found.settled k) refl
    where
      by : (o : Option SettledWord) → settled_at found.settled k ≡ o → (e : SettledWord) × (settled_at found.settled k ≡ Some e)
      by None s = absurd (let n : h.assignment.words k ≡ None = h.assignment.none k s in let y : None ≡ Some v = sym n ∙ is in cc)
      by (Some e) s = (e, s)

  goto_filed : (s n y x g : ℕ) (v : List ℕ) → HasGotoWord words s n y x v → edge_of t s (N n) ≡ Some g → (w : NumberedGoto) × Contains (row_of rows (place_of c s y)) w × (w.fact ≡ goto s n y x)
  goto_filed s n y x g v stored edge =
      let e = settled_word (soughts.Goto (goto s n y x)) v stored in
      let o = h.all_gotos (goto s n y x) e.0 g e.1 edge in
      let row = row_listed found.work.gotos.items (place_of c g x) o.0 o.1 in
      let place : place_of c s y ≡ place_of c (o.0).fact.from (o.0).fact.first = ap (λ (p : GotoFact). place_of c p.from p.first) (sym o.2) in
      (numbered_goto found.settled o.0, (files.rows (place_of c s y)).all (numbered_goto found.settled o.0) (row.0, row.1, (o.0, row.2, (place, refl))), o.2)

  filed_goto : (n : ℕ) (w : NumberedGoto) → Contains (row_of rows n) w → IsNumberedGoto t (rep_of c) found.words.book words w
  filed_goto n w there = elim ((files.rows n).only w there) [
    | inl was ↦ absurd (contains_none w (rw (none n) at was))
    | inr p ↦ (
        let g = p.2.0 in
        let m = listed_row found.work.gotos.items p.0 g p.1 p.2.1 in
        rw p.2.2.1 (goto_numbered m.0 g m.1))
  ]

  pub has_gotos : HasGotos t c found.words.book rows
  has_gotos = record {
    gotos = words;
    least = find_least_gotos t f (rep_of c) (rests_of h.assignment.words) words h.closed;
    filed = record { len = files.len ∙ len; each = filed_goto; all = goto_filed };
  }
