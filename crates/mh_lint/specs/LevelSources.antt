-- What gives a production of the grammar its precedence level: a `%prec`, or its last token. Inlining decides this
-- (Menhir manual, `%inline` and `%prec`); it treats all levels alike, so the definition inlines names for the levels.
use Rattle.std.specs.Prelude.{◌≡◌, ℕ, List, map, Option, None, Some, slice_get}
use Rattle.std.specs.List.{Contains, enumerate_from}
use Rattle.mh_grammar.specs.declared.types.Assoc.{Assoc}
use Rattle.mh_grammar.specs.declared.types.Assoc.TheVariants as assocs
use Rattle.mh_grammar.specs.declared.types.Level.{Level}
use Rattle.mh_grammar.specs.declared.types.TokenInfo.{TokenInfo}
use Rattle.mh_grammar.specs.declared.types.Production.{Production}
use Rattle.mh_grammar.specs.declared.types.Grammar.{Grammar}
use Rattle.mh_rules.specs.declared.joined.Prec.{Prec}
use Rattle.mh_rules.specs.declared.joined.Prec.TheVariants as precs
use Rattle.mh_rules.specs.declared.instances.InstanceProduction.{InstanceProduction}
use Rattle.mh_rules.specs.declared.instances.Instance.{Instance}
use Rattle.mh_rules.specs.declared.instances.Expanded.{Expanded}
use Rattle.mh_inline.specs.Inlined.{IsInlined}
use Rattle.mh_lint.specs.declared.sources.LevelSource.{LevelSource}
use Rattle.mh_lint.specs.declared.sources.LevelSource.TheVariants as sources

-- The sources as levels: that of token z is level z of file 0, to the left; that of the `%prec` of alternative n of
-- file k is level n of file k, to the right.
abbrev pub token_source : ℕ → Level
token_source z = record { file = 0; rank = z; assoc = assocs.Left }

abbrev pub prec_source : ℕ → ℕ → Level
prec_source file place = record { file = file; rank = place; assoc = assocs.Right }

-- The source that a level represents.
abbrev pub source_by : Assoc → ℕ → ℕ → LevelSource
source_by assocs.Left file rank = sources.Token rank
source_by assocs.Right file rank = sources.Prec file rank
source_by assocs.Nonassoc file rank = sources.None

abbrev pub source_in : Option Level → LevelSource
source_in None = sources.None
source_in (Some l) = source_by l.assoc l.file l.rank

abbrev pub source_token : ℕ × TokenInfo → TokenInfo
source_token e = record e.1 { level = Some (token_source e.0) }

abbrev pub source_prec : ℕ → ℕ → Prec → Prec
source_prec file place precs.Absent = precs.Absent
source_prec file place (precs.Given level) = precs.Given (Some (prec_source file place))

abbrev pub source_production : InstanceProduction → InstanceProduction
source_production q = record q { prec = source_prec q.file q.place q.prec }

abbrev pub source_instance : Instance → Instance
source_instance i = record i { productions = map source_production i.productions }

-- The expanded rules with the sources of levels in place of the levels.
abbrev pub with_sources : Expanded → Expanded
with_sources e = record { tokens = map source_token (enumerate_from 0 e.tokens); starts = e.starts; instances = map source_instance e.instances }

-- The sources of the levels of the productions of a grammar whose levels represent sources.
abbrev pub sources_in : Grammar → List LevelSource
sources_in g = map (λ (p : Production). source_in p.level) g.productions

-- The level of ordinary production p of the grammar comes from this source.
pub record HasSource (e : Expanded) (p : ℕ) (source : LevelSource) : Type 0 where
  pub grammar : Grammar
  pub inlined : IsInlined (with_sources e) grammar
  pub is : slice_get (sources_in grammar) p ≡ Some source

-- The source gives the level: nothing gives no level, a token gives its own, and the `%prec` of an alternative gives
-- the level of its name, which may have none.
pub data GivesLevel (e : Expanded) : LevelSource → Option Level → Type 0 where
  nothing : GivesLevel e sources.None None
  token : (z : ℕ) (info : TokenInfo) → slice_get e.tokens z ≡ Some info → GivesLevel e (sources.Token z) info.level
  prec : (i : Instance) (q : InstanceProduction) (level : Option Level) → Contains e.instances i → Contains i.productions q → q.prec ≡ precs.Given level → GivesLevel e (sources.Prec q.file q.place) level
