use Rattle.std.proofs.Common.{[], nat_eq, refl, arith}
use Rattle.indexmap.specs.IndexMap.{get}
use Rattle.mh_grammar.specs.Numbering.{AreNumbersOf}
use Rattle.mh_rules.specs.declared.instances.Expanded.{Expanded}
use Rattle.mh_expand.specs.Expansion.{IsExpanded, start_terms}
use Rattle.mh_expand.specs.code.Contract.{ExpandContract}
use Rattle.mh_expand.specs.code.SharedTerms.{terms_of, terms_at}
use Rattle.mh_expand.specs.code.InstanceSearch.{IsInstanceSearch, FindsStarts}
use Rattle.mh_expand.proofs.SharedTerms.{terms_of-distinct}
use Rattle.mh_expand.proofs.IsExpanding.{IsFirstFault-start, IsInstanceSearch-none, IsExpanding-start, IsExpanded-done, AreNumbersOf-longer}
use Rattle.mh_expand.proofs.HasSameSentences.{has_same_sentences}
use Rattle.mh_expand.proofs.InstancesInRange.{IsExpandedReady-expanded}
use Rattle.mh_expand.proofs.UniqueOrder.{expanded_has_no_fault}
use Rattle.mh_expand.proofs.expansion.expand_found.Goals as goal

pub expand_all-requires : goal.expand_all-requires
expand_all-requires c =
    let j = c.args.joined.now in
    let ts = terms_of c.args.terms.now.nodes.keys in
    let us = terms_of c.find_starts.new.terms.nodes.keys in
    let numbers = c.find_starts.new.found.keys in
    let s : IsInstanceSearch j [] ts c.args.found.now.keys = rw c.requires.none (IsInstanceSearch-none j ts) in
    let w : FindsStarts j ts us [] numbers c.in-Ok.starts = rw c.requires.none at (c.in-Ok.ensures.ok s) in
    IsExpanding-start j ts us numbers c.in-Ok.starts (get nat_eq c.args.ranks.now) (terms_of-distinct c.find_starts.new.terms.nodes.keys c.find_starts.new.terms.nodes_ok) c.in-Ok.ensures.few w c.requires.ranks

pub returns-in-Err-clause-err : goal.returns-in-Err-clause-err
returns-in-Err-clause-err c =
    let j = c.args.joined.now in
    let ts = terms_of c.args.terms.now.nodes.keys in
    let s : IsInstanceSearch j [] ts c.args.found.now.keys = rw c.requires.none (IsInstanceSearch-none j ts) in
    IsFirstFault-start j c.in-Err.fault (c.in-Err.ensures.err s)

pub returns-in_ok-expanded-in-Ok-expand_all-clause-ok : goal.returns-in_ok-expanded-in-Ok-expand_all-clause-ok
returns-in_ok-expanded-in-Ok-expand_all-clause-ok c =
    let j = c.args.joined.now in
    let ts = terms_of c.args.terms.now.nodes.keys in
    let us = terms_of c.find_starts.new.terms.nodes.keys in
    let vs = terms_of c.expand_all.new.terms.nodes.keys in
    let numbers = c.find_starts.new.found.keys in
    let new = c.expand_all.new.found.keys in
    let s : IsInstanceSearch j [] ts c.args.found.now.keys = rw c.requires.none (IsInstanceSearch-none j ts) in
    let w : FindsStarts j ts us [] numbers c.in-Ok.starts = rw c.requires.none at (c.in-Ok.ensures.ok s) in
    let a = c.in-Ok-expand_all.ensures.ok in
    let named : AreNumbersOf (terms_at vs new) c.in-Ok.starts (start_terms j) = AreNumbersOf-longer (terms_at us numbers) (terms_at vs new) a.longer c.in-Ok.starts (start_terms j) w.are_starts in
    let e : Expanded = record { tokens = j.tokens; starts = c.in-Ok.starts; instances = c.in-Ok-expand_all.instances } in
    let done : IsExpanded j e = IsExpanded-done j vs new c.in-Ok-expand_all.instances (get nat_eq c.args.ranks.now) a.expanding e a.done named refl refl in
    let whole : ExpandContract j e = record {
      expanded = done;
      ready = λ ready. IsExpandedReady-expanded j e done ready (omega (arith, a.expanding.few, a.expanding.within));
      sentences = has_same_sentences j e done;
      no_fault = expanded_has_no_fault j e done;
    } in
    rw c.in_ok-expanded-in-Ok-expand_all.ensures whole
