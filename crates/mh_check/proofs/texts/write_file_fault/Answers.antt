use Rattle.std.proofs.Common.{codes}
use Rattle.mh_check.specs.Texts.{place_text}
use Rattle.mh_check.proofs.FaultLines.{text_after_place, name_after_place}
use Rattle.mh_check.proofs.texts.write_file_fault.Goals as goal

pub returns-in_ok-push-in-UnknownStart : goal.returns-in_ok-push-in-UnknownStart
returns-in_ok-push-in-UnknownStart c = rw c.in-UnknownStart.is (name_after_place c.args.text.now.items (place_text c.args.name.now c.in-UnknownStart.line) c.write_place-in-UnknownStart.new.text.items (codes "unknown start ") c.extend_from_slice-in-UnknownStart.new.self.items c.as_slice.result.now c.in-UnknownStart.start c.extend_from_slice-in-UnknownStart-2.new.self.items (codes "\n") c.push.new.self.items
    c.in_ok-write_place-in-UnknownStart.ensures c.in_ok-extend_from_slice-in-UnknownStart.ensures.items c.as_slice.ensures c.in_ok-extend_from_slice-in-UnknownStart-2.ensures.items c.in_ok-push-in-UnknownStart.ensures.items)

pub returns-in_ok-extend_from_slice-in-MissingStart : goal.returns-in_ok-extend_from_slice-in-MissingStart
returns-in_ok-extend_from_slice-in-MissingStart c = rw c.in-MissingStart.is (text_after_place c.args.text.now.items (place_text c.args.name.now c.in-MissingStart.line) c.write_place-in-MissingStart.new.text.items (codes "missing start\n") c.extend_from_slice-in-MissingStart.new.self.items c.in_ok-write_place-in-MissingStart.ensures c.in_ok-extend_from_slice-in-MissingStart.ensures.items)

pub returns-in_ok-push-in-UnknownToken : goal.returns-in_ok-push-in-UnknownToken
returns-in_ok-push-in-UnknownToken c = rw c.in-UnknownToken.is (name_after_place c.args.text.now.items (place_text c.args.name.now c.in-UnknownToken.line) c.write_place-in-UnknownToken.new.text.items (codes "unknown token ") c.extend_from_slice-in-UnknownToken.new.self.items c.as_slice-in-UnknownToken.result.now c.in-UnknownToken.token c.extend_from_slice-in-UnknownToken-2.new.self.items (codes "\n") c.push-in-UnknownToken.new.self.items
    c.in_ok-write_place-in-UnknownToken.ensures c.in_ok-extend_from_slice-in-UnknownToken.ensures.items c.as_slice-in-UnknownToken.ensures c.in_ok-extend_from_slice-in-UnknownToken-2.ensures.items c.in_ok-push-in-UnknownToken.ensures.items)

pub returns-in_ok-extend_from_slice-in-Shape : goal.returns-in_ok-extend_from_slice-in-Shape
returns-in_ok-extend_from_slice-in-Shape c = rw c.in-Shape.is (text_after_place c.args.text.now.items (place_text c.args.name.now c.in-Shape.line) c.write_place.new.text.items (codes "shape\n") c.extend_from_slice.new.self.items c.in_ok-write_place-in-Shape.ensures c.in_ok-extend_from_slice-in-Shape.ensures.items)
