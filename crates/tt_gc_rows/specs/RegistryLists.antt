-- Registration, updates and listings: lists of events.
use Rattle.std.specs.Prelude.{List, [], ◌∷◌, codes}
use Rattle.tt_edge.specs.declared.event.Event.{Event}
use Rattle.tt_edge.specs.declared.event.Event.TheVariants.{Shut}
use Rattle.tt_gc_rows.specs.Words.{opens, says, registers, updates, lists}

-- A server registers: the code is drawn, and its secret.
abbrev pub registration : List Event
registration =
    opens 1 ∷ registers 1 1 3979 [] [] ∷ []

-- The same, told in bytes.
abbrev pub registration_in_bytes : List Event
registration_in_bytes =
    opens 1 ∷ says 1 (codes "09000101018b0f0000") ∷ []

-- Other words draw another code and another secret.
abbrev pub other_words : List Event
other_words =
    opens 1 ∷ registers 1 1 3979 [] [] ∷ []

-- A server ends, and registers again by its code and secret from another connection.
abbrev pub registered_again : List Event
registered_again =
    opens 1 ∷ registers 1 1 3979 [] [] ∷ Shut 1 ∷ opens 2
    ∷ registers 2 2 4000 (codes "+9ZDDVF") (codes "S32A5CAX5WU9Z5BUPKLCGXR9JWS22WGH") ∷ []

-- With another secret a known code is refused.
abbrev pub another_secret : List Event
another_secret =
    opens 1 ∷ registers 1 1 3979 [] [] ∷ Shut 1 ∷ opens 2
    ∷ registers 2 1 3979 (codes "+9ZDDVF") (codes "S32A5CAX5WU9Z5BUPKLCGXR9JWS22WGA") ∷ []

-- A code that was never drawn is refused, and so is a text that is no code.
abbrev pub unknown_code : List Event
unknown_code =
    opens 1 ∷ registers 1 1 3979 (codes "+AAAAAA") (codes "S32A5CAX5WU9Z5BUPKLCGXR9JWS22WGH") ∷ opens 2
    ∷ registers 2 1 3979 (codes "hello") [] ∷ []

-- While its server lives a code is refused, also with its secret; and so are a second registration and a third kind.
abbrev pub code_still_live : List Event
code_still_live =
    opens 1 ∷ registers 1 1 3979 [] [] ∷ opens 2
    ∷ registers 2 1 3979 (codes "+9ZDDVF") (codes "S32A5CAX5WU9Z5BUPKLCGXR9JWS22WGH") ∷ opens 3
    ∷ registers 3 3 3979 [] [] ∷ registers 1 1 3979 [] [] ∷ []

-- A secret beside an empty code is ignored: a code is drawn.
abbrev pub secret_without_code : List Event
secret_without_code =
    opens 1 ∷ registers 1 0 3979 [] (codes "secret") ∷ []

-- Where a registration is refused nothing is drawn.
abbrev pub nothing_drawn_in_vain : List Event
nothing_drawn_in_vain =
    opens 1 ∷ registers 1 9 3979 [] [] ∷ opens 2 ∷ registers 2 1 3979 [] [] ∷ []

-- An update with an empty body.
abbrev pub empty_update : List Event
empty_update =
    opens 1 ∷ says 1 (codes "030003") ∷ []

-- An update on a connection that isn't registered.
abbrev pub update_of_nobody : List Event
update_of_nobody =
    opens 1 ∷ updates 1 (codes "13.4") ∷ []

-- Where no server is listed the end of the listing is told alone.
abbrev pub listing_of_none : List Event
listing_of_none =
    opens 1 ∷ registers 1 1 3979 [] [] ∷ opens 2 ∷ lists 2 (codes "13.4") ∷ []

-- Public servers of the revision are listed in order of registration, each by its last update; no other kind, no other
-- revision.
abbrev pub listed : List Event
listed =
    opens 1 ∷ opens 2 ∷ opens 3 ∷ registers 1 1 3979 [] [] ∷ registers 2 2 3979 [] [] ∷ registers 3 1 3979 [] []
    ∷ updates 3 (codes "13.4") ∷ updates 2 (codes "13.4") ∷ updates 1 (codes "13.3") ∷ lists 2 (codes "13.4")
    ∷ updates 1 (codes "13.4") ∷ opens 4 ∷ lists 4 (codes "13.4") ∷ []

-- A server that registers again comes last, and is listed only once it has told of its game again.
abbrev pub listed_anew : List Event
listed_anew =
    opens 1 ∷ registers 1 1 3979 [] [] ∷ updates 1 (codes "13.4") ∷ opens 2 ∷ registers 2 1 3980 [] []
    ∷ updates 2 (codes "13.4") ∷ Shut 1 ∷ opens 3
    ∷ registers 3 1 3979 (codes "+9ZDDVF") (codes "S32A5CAX5WU9Z5BUPKLCGXR9JWS22WGH") ∷ opens 4
    ∷ lists 4 (codes "13.4") ∷ updates 3 (codes "13.4") ∷ lists 4 (codes "13.4") ∷ []
