-- Lemmas on the loops that insert names with their numbers into the maps of a lexicon.
use Rattle.std.proofs.Common.{◌≡◌, ◌+◌, ◌<◌, ◌≤◌, ℕ, Bool, true, false, List, [], ◌∷◌, ◌++◌, length, map, take, Option, None, Some, refl, sym, ◌∙◌, ap, subst, if◌then◌else◌, is_some, option_copied, Bor, true≢false, get_or, arith, add-one, Vec}
use Rattle.std.proofs.lemmas.List.{map-append, length-map, length-take-le, take_all, get_or_default, get_or-map}
use Rattle.std.proofs.Math.Seq.{take-suc}
use Rattle.mh_grammar.specs.declared.types.Grammar.{Grammar}
use Rattle.mh_grammar.specs.declared.types.NontermInfo.{NontermInfo}
use Rattle.mh_msgfile.specs.code.LineSteps.{AreNumbers, or_else, InsertsName}
use Rattle.mh_msgfile.specs.StartNames.{start_symbol_name}
use Rattle.mh_msgfile.specs.Sentences.{number_in}
use Rattle.std.specs.List.{position_from, All}
use Rattle.std.specs.HashMap.{HashMap, UpdatesBy}
use Rattle.std.specs.Map.{lookup, KeepsOthers}
use Rattle.std.specs.Cmp.Lexicographic.{bytes_decides, nat_list_eq_equiv}
use Rattle.std.specs.Str.{bytes_eq}
use Rattle.std.specs.declared.alloc.Global.{Global}
use Rattle.mh_grammar.specs.Text.{Text}

position_on : (t : Text → Bool) (i : ℕ) (x : Text) (xs : List Text) (y : Text) (c : Bool) → t x ≡ c → position_from t (i + 1) (xs ++ y ∷ []) ≡ or_else (position_from t (i + 1) xs) (if t y then Some (i + 1 + length xs) else None)
    → position_from t i ((x ∷ xs) ++ y ∷ []) ≡ or_else (position_from t i (x ∷ xs)) (if t y then Some (i + length (x ∷ xs)) else None)
position_on t i x xs y true is on = rw is refl
position_on t i x xs y false is on =
    let same : i + 1 + length xs ≡ i + length (x ∷ xs) = omega arith in
    rw is (on ∙ ap (λ (k : ℕ). or_else (position_from t (i + 1) xs) (if t y then Some k else None)) same)

position_push : (t : Text → Bool) (i : ℕ) (xs : List Text) (y : Text) → position_from t i (xs ++ y ∷ []) ≡ or_else (position_from t i xs) (if t y then Some (i + length xs) else None)
position_push t i [] y = let same : i ≡ i + 0 = omega arith in ap (λ (k : ℕ). if t y then Some k else None) same
position_push t i (x ∷ xs) y = position_on t i x xs y (t x) refl (position_push t (i + 1) xs y)

abbrev Entries : Type 0
Entries = List (Vec ℕ Global × ℕ)

-- After the next name is inserted, the map has the numbers of all names up to it.
pub numbers_push : (names : List Text) (name : Text) (number : ℕ) (es fs : Entries) → number ≡ length names → AreNumbers names es → InsertsName name number es fs → AreNumbers (names ++ name ∷ []) fs
numbers_push names name number es fs is are puts other =
    puts other ∙ ap (λ (o : Option ℕ). or_else o (if bytes_eq other name then Some number else None)) (are other)
    ∙ ap (λ (k : ℕ). or_else (position_from (bytes_eq other) 0 names) (if bytes_eq other name then Some k else None)) (is ∙ zero_more (length names))
    ∙ sym (position_push (bytes_eq other) 0 names name)
  where
    zero_more : (n : ℕ) → n ≡ 0 + n
    zero_more n = omega arith

-- The names of a list of items, inserted one by one.
module _ {A : Type 0} (name_of : A → Text) (items : List A) where
  names_push : (n : ℕ) (item : A) → n < length items → item ≡ get_or items n item → map name_of (take (n + 1) items) ≡ map name_of (take n items) ++ name_of item ∷ []
  names_push n item lt is =
      ap (λ (k : ℕ). map name_of (take k items)) (add-one n) ∙ ap (map name_of) (take-suc items n item lt ∙ ap (λ (t : A). take n items ++ t ∷ []) (sym is)) ∙ map-append name_of (take n items) (item ∷ [])

  names_count : (n : ℕ) → n ≤ length items → n ≡ length (map {B = Text} name_of (take n items))
  names_count n le = sym (length-map (take n items) name_of ∙ length-take-le n items le)

  pub item_put : (n number : ℕ) (item : A) (name : Text) (es fs : Entries) → n < length items → item ≡ get_or items n item → name ≡ name_of item → number ≡ n → AreNumbers (map name_of (take n items)) es → InsertsName name number es fs → AreNumbers (map name_of (take (n + 1) items)) fs
  item_put n number item name es fs lt is named numbered are puts =
      let pushed = numbers_push (map name_of (take n items)) name number es fs (numbered ∙ names_count n (omega arith)) are puts in
      subst (λ (names : List Text). AreNumbers names fs) (ap (λ (t : Text). map name_of (take n items) ++ t ∷ []) named ∙ sym (names_push n item lt is)) pushed

  pub none_put : (es : Entries) → es ≡ [] → AreNumbers (map name_of (take 0 items)) es
  none_put es is name = ap (λ (fs : Entries). lookup (λ key. bytes_eq name key.items) fs) is

  pub all_put : (n : ℕ) (es : Entries) → length items ≤ n → AreNumbers (map name_of (take n items)) es → AreNumbers (map name_of items) es
  all_put n es le are = subst (λ (ts : List A). AreNumbers (map name_of ts) es) (take_all n items le) are

abbrev same_key : Vec ℕ Global → Vec ℕ Global → Bool
same_key x y = bytes_eq x.items y.items

-- A change at some keys leaves the numbers of all other names.
kept : (test : Vec ℕ Global → Bool) (es fs : Entries) (other : Text) → KeepsOthers same_key test es fs → ((k : Vec ℕ Global) → test k ≡ true → bytes_eq other k.items ≡ false) → number_in fs other ≡ number_in es other
unfolding KeepsOthers
kept test es fs other keeps apart = keeps (λ k. bytes_eq other k.items) (λ x y. nat_list_eq_equiv.congr other x.items y.items) apart

or_none : (o : Option ℕ) → o ≡ or_else o None
or_none None = refl
or_none (Some n) = refl

-- An insertion gives its number to a name that had none.
pub name_put : {S : Type 0} (m n : HashMap (Vec ℕ Global) ℕ S) (name : Text) (key : Vec ℕ Global) (number : ℕ) → UpdatesBy same_key (same_key key) m n (Some number) → key.items ≡ name → number_in m.entries name ≡ None → InsertsName name number m.entries n.entries
name_put m n name key number updates named none other = by (bytes_eq other name) refl
  where
    by : (c : Bool) → bytes_eq other name ≡ c → number_in n.entries other ≡ or_else (number_in m.entries other) (if bytes_eq other name then Some number else None)
    by true e =
        let is : other ≡ name = (bytes_decides other name).0 e in
        let its : number_in n.entries name ≡ Some number = subst (λ (x : Text). number_in n.entries x ≡ Some number) named updates.1 in
        rw e (ap (number_in n.entries) is ∙ its ∙ ap (λ (o : Option ℕ). or_else o (Some number)) (sym none ∙ ap (number_in m.entries) (sym is)))
    by false e =
        let same : number_in n.entries other ≡ number_in m.entries other =
        kept (same_key key) m.entries n.entries other updates.3 (λ k h. ap (bytes_eq other) (sym ((bytes_decides key.items k.items).0 h) ∙ named) ∙ e) in
        rw e (same ∙ or_none (number_in m.entries other))

pub copied_none : (r : Option (Bor ℕ)) → is_some r ≡ false → option_copied r ≡ None
copied_none None h = refl
copied_none (Some x) h = absurd (true≢false h)

-- If the map has the names of the first n starts with their numbers, then, after the name of start n is inserted, it
-- has those of the first n + 1.
pub start_put : (g : Grammar) (n number start : ℕ) (nonterminal : NontermInfo) (name : Text) (es fs : Entries) → n < length g.starts → start ≡ get_or g.starts n 0 → All (λ s. s < length g.nonterminals) g.starts → nonterminal ≡ get_or g.nonterminals start nonterminal → name ≡ nonterminal.name →
    number ≡ n → AreNumbers (map (start_symbol_name g) (take n g.starts)) es → InsertsName name number es fs → AreNumbers (map (start_symbol_name g) (take (n + 1) g.starts)) fs
start_put g n number start nonterminal name es fs lt is known at named numbered are puts =
    let within : start < length g.nonterminals = subst (λ (s : ℕ). s < length g.nonterminals) (sym is) (known n 0 lt) in
    item_put (start_symbol_name g) g.starts n number start name es fs lt (is ∙ get_or_default g.starts n 0 start lt)
    (named ∙ ap (λ (x : NontermInfo). x.name) at ∙ sym (get_or-map (λ (x : NontermInfo). x.name) g.nonterminals start nonterminal [] within)) numbered are puts
