-- Lemmas on the insertion of a reduction into an ordered set.
use Rattle.std.proofs.Common.{◌≡◌, inl, List, [], ◌∷◌, ◌++◌, Bool, true, false, refl}
use Rattle.std.specs.Prelude.{if◌then◌else◌}
use Rattle.std.specs.List.{list_any}
use Rattle.std.proofs.lemmas.List.Elements.{Contains-append_left}
use Rattle.indexmap.specs.IndexSet.{insert_key}
use Rattle.indexmap.proofs.CallerLemmas.{Contains-list_any}
use Rattle.mh_grammar.proofs.Lists.{contains_last, contains_push}
use Rattle.mh_facts.specs.code.Queues.{ListGains}

-- An insertion adds the key and nothing else.
collects_key : {X : Type 0} (eq : X → X → Bool) → ((x y : X) → eq x y ≡ true → x ≡ y) → (ks : List X) (k : X) → ListGains (λ r. r ≡ k) ks (insert_key eq ks k)
collects_key {X} eq same ks k = by (list_any (eq k) ks) refl
  where
    by : (b : Bool) → list_any (eq k) ks ≡ b → ListGains (λ r. r ≡ k) ks (if b then ks else ks ++ k ∷ [])
    by true e = record { kept = λ r h. h; all = λ r is. rw is (Contains-list_any eq same ks k e); only = λ r h. inl h }
    by false e = record { kept = λ r h. Contains-append_left ks (k ∷ []) r h; all = λ r is. rw is (contains_last ks k); only = λ r h. contains_push ks k r h }

-- The same lemma, for a set that is given by an equation.
pub collects_insert : {X : Type 0} (eq : X → X → Bool) (ks new : List X) (k : X) → new ≡ insert_key eq ks k → ((x y : X) → eq x y ≡ true → x ≡ y) → ListGains (λ r. r ≡ k) ks new
collects_insert eq ks new k e same = rw e (collects_key eq same ks k)
