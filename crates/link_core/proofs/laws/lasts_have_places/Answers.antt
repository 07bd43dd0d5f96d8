use Rattle.link_core.proofs.Orders.{last_is, last_place}
use Rattle.link_core.proofs.laws.lasts_have_places.Goals as goal

pub returns : goal.returns
returns k lease order ends n l = record { number = λ p a. last_is lease order ends n p l a; place = λ some. let f = last_place lease order ends n l some in (f.0, f.1) }
