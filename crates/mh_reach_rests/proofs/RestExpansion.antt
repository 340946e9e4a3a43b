-- Proves that `expand_rest` stores a settled rest in its row and queues all that follows from it.
use Rattle.std.proofs.Common.{◌≡◌, ℕ, ◌-◌, inl, inr, List, length, Option, Some, ap, sym, ◌∙◌}
use Rattle.std.specs.Prelude.{slice_get}
use Rattle.std.specs.Global.{Vec}
use Rattle.mh_grammar.specs.declared.types.Symbol.{Symbol}
use Rattle.mh_grammar.specs.declared.types.Symbol.TheVariants.{T, N}
use Rattle.mh_grammar.specs.Plain.{rhs_of}
use Rattle.mh_tables_core.specs.Table.{TableData}
use Rattle.mh_facts.specs.declared.classes.TokenClasses.{TokenClasses}
use Rattle.mh_facts.specs.code.Queues.{AddsToRow, Among, QueueGains, row_of}
use Rattle.mh_facts.specs.code.TokenClasses.{place_of}
use Rattle.mh_reach_rests.specs.declared.waiting.RestData.{RestData}
use Rattle.mh_reach_rests.specs.declared.waiting.SettledRest.{SettledRest}
use Rattle.mh_reach_rests.specs.code.RestRules.{ExpandsRest, FollowsBoth, FollowsToken, gotos_in}
use Rattle.mh_reach_rests.proofs.Expansions.{queue_of}

two_symbols : (o : Option Symbol) (x n : ℕ) → o ≡ Some (T x) → o ≡ Some (N n) → ⊥
two_symbols o x n a b = (let y : Some (T x) ≡ Some (N n) = sym a ∙ b in let z : T x ≡ N n = cc in cc)

one_token : (o : Option Symbol) (x y : ℕ) → o ≡ Some (T x) → o ≡ Some (T y) → y ≡ x
one_token o x y a b = (let z : Some (T y) ≡ Some (T x) = sym b ∙ a in let w : T y ≡ T x = cc in cc)

module _ (t : TableData) (c : TokenClasses) (sources : List (Vec ℕ)) (old new : RestData) (r : SettledRest) where
  -- The case of a token before the rest.
  pub token_expands : (x : ℕ) → slice_get (rhs_of t.grammar r.key.production) (r.key.dot - 1) ≡ Some (T x) → new.rests.items ≡ old.rests.items → new.gotos.items ≡ old.gotos.items
      → QueueGains (Among (FollowsToken t c r x) (row_of sources r.key.from)) (queue_of old) (queue_of new) → ExpandsRest t c sources old new r
  token_expands x symbol rests gotos g = record {
    gotos = gotos;
    rests_len = ap length rests;
    kept = g.kept;
    only = λ cost o there. elim (g.only cost o there) [ inl was ↦ inl was | inr is ↦ inr (inl (x, symbol, is)) ];
    shifts = λ y cost o other is. g.all cost o (let one : y ≡ x = one_token (slice_get (rhs_of t.grammar r.key.production) (r.key.dot - 1)) x y symbol other in rw one at is);
    joins = λ n cost o other is. absurd (two_symbols (slice_get (rhs_of t.grammar r.key.production) (r.key.dot - 1)) x n symbol other);
    rest_kept = λ m q there. rw rests there;
    rest_only = λ m q there. inl (rw rests at there);
    rest_here = λ n other. absurd (two_symbols (slice_get (rhs_of t.grammar r.key.production) (r.key.dot - 1)) x n symbol other);
  }

  -- The case of a nonterminal before the rest.
  pub nonterminal_expands : (m : ℕ) → slice_get (rhs_of t.grammar r.key.production) (r.key.dot - 1) ≡ Some (N m) → AddsToRow old.rests.items new.rests.items (place_of c r.key.from r.key.first) r → new.gotos.items ≡ old.gotos.items
      → QueueGains (Among (λ g. FollowsBoth t c g r) (gotos_in old (place_of c r.key.from r.key.first))) (queue_of old) (queue_of new) → ExpandsRest t c sources old new r
  nonterminal_expands m symbol rests gotos g = record {
    gotos = gotos;
    rests_len = rests.rows;
    kept = g.kept;
    only = λ cost o there. elim (g.only cost o there) [ inl was ↦ inl was | inr is ↦ inr (inr is) ];
    shifts = λ x cost o other is. absurd (two_symbols (slice_get (rhs_of t.grammar r.key.production) (r.key.dot - 1)) x m other symbol);
    joins = λ n cost o other is. g.all cost o is;
    rest_kept = rests.kept;
    rest_only = rests.only;
    rest_here = λ n other. rests.added;
  }
