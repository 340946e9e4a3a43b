-- What the mentions before a mention say about it.
use Rattle.std.specs.Borrow.{Bor}
use Rattle.std.specs.Prelude.{◌≡◌, ◌↔◌, ℕ, Bool, true, false, not, List, take}
use Rattle.std.specs.List.{Contains, list_any}
use Rattle.std.specs.HashMap.{get}
use Rattle.std.specs.HashSet.{HashSet, contains, contains_by}
use Rattle.mh_grammar.specs.Text.{Text}
use Rattle.mh_grammar.specs.declared.name.Name.{Name}
use Rattle.mh_rules.specs.declared.modules.Module.{Module}
use Rattle.mh_rules.specs.declared.modules.Rule.{Rule}
use Rattle.mh_join_names.specs.Names.{same, formal_number, is_public}
use Rattle.mh_reader_places.specs.declared.mentions.Mention.{Mention}
use Rattle.mh_lint_faults.specs.NameFaults.{formals_after, formals_at, has_own_prec, last_token, rules_in}
use Rattle.mh_lint_faults.specs.declared.name_faults.Context.{Context}

-- A rule agrees with the definitions before: a public one has the shape of the first, a private one is new in its file.
abbrev pub rule_agrees : Bool → Bool → Bool → Bool
rule_agrees true shape seen = shape
rule_agrees false shape seen = not seen

-- The list has the alternatives that have a `%prec` of their own among these mentions.
abbrev pub HasOwnPrecs : List Mention → List ℕ → Type 0
HasOwnPrecs before precs = (n : ℕ) → Contains precs n ↔ (has_own_prec before n ≡ true)

-- The set has this name; its members are lent names.
abbrev pub has_lent : {S : Type 0} → HashSet (Bor Name) S → Text → Bool
has_lent s x = contains_by (λ k. same x k.now) s

-- The context is that after these mentions of a file.
pub record IsContext (starts : List Text) (m : Module) (before : List Mention) (c : Context) : Type 0 where
  pub token : c.token ≡ last_token before
  pub rules : c.rules ≡ rules_in before
  pub own : (x : Text) → is_public starts m.rules x ≡ false → has_lent c.own x ≡ list_any (λ (r : Rule). same x r.name) (take (rules_in before) m.rules)
  pub seen : (x : Text) → contains same c.seen x ≡ list_any (same x) (formals_after before)
  pub formals : (x : Text) → get same c.formals x ≡ formal_number (formals_at m before) x
  pub precs : HasOwnPrecs before c.precs.keys
