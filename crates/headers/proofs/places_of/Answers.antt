use Rattle.headers.specs.Header.{places_of}
use Rattle.headers.proofs.places_of.Goals as goal

pub returns : goal.returns
unfolding places_of
returns c =
    rw
    (c.place.ensures, c.place-2.ensures, c.place-3.ensures, c.place-4.ensures, c.place-5.ensures)
