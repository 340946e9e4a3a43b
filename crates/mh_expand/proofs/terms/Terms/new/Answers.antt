use Rattle.std.proofs.Common.{ap, ◌∙◌}
use Rattle.mh_expand.specs.code.SharedTerms.{terms_of}
use Rattle.mh_expand.proofs.SharedTerms.{terms_of-none}
use Rattle.mh_expand.proofs.terms.Terms.new.Goals as goal

pub returns : goal.returns
returns c = ap terms_of c.new.ensures.empty ∙ terms_of-none
