-- Who is listed: public servers of the revision that is asked for alone.
use Rattle.std.proofs.Common.{◌≡◌, ℕ, suc, Bool, true, false, ◌&&◌, cond, List, [], ◌∷◌, Option, Some, None, refl, sym, ap, inl, inr, arith}
use Rattle.std.specs.Prelude.{◌⊎◌, eqb, filter}
use Rattle.std.specs.List.{Contains}
use Rattle.std.proofs.lemmas.Slice.Eq.{bytes_eq-Decides}
use Rattle.std.proofs.lemmas.Bool.{eqb-true, false≢true}
use Rattle.std.proofs.lemmas.List.Elements.{Contains-append_cases, Contains-push_cases}
use Rattle.tt_coord.specs.declared.info.Info.{Info}
use Rattle.tt_coord.specs.declared.coord.CoordMsg.{CoordMsg}
use Rattle.tt_coord.specs.declared.coord.CoordMsg.TheVariants.{GcListing}
use Rattle.tt_gc_table.specs.Table.{Table, Server, is_live}
use Rattle.tt_gc_table.specs.Deed.{Step, Deed, msg, given, each, tells}
use Rattle.tt_gc_table.specs.PacketRules.{has_revision, is_listed, listed_item, tells_server, on_listing}
use Rattle.tt_gc_table.specs.Listing.{ListsServer, EndsListing}

none_in : (step : Step) → Contains [] step → ⊥
none_in step c = omega (arith, c.1)

-- what stands in a list of one is that one
one_in : (x step : Step) → Contains (x ∷ []) step → x ≡ step
one_in x step c = by (Contains-push_cases [] x step c)
  where
    by : Contains [] step ⊎ (x ≡ step) → x ≡ step
    by (inl none) = absurd (none_in step none)
    by (inr is) = is

abbrev tells_step : ℕ → CoordMsg → Table → Step
tells_step conn m t = record { to = filter (is_live t) (conn ∷ []); what = msg m }

first_in : {A : Type 0} (x : A) (xs : List A) → Contains (x ∷ xs) x
first_in x xs = (0, omega arith, refl)

later_in : {A : Type 0} (x y : A) (xs : List A) → Contains xs y → Contains (x ∷ xs) y
later_in x y xs c = (suc c.0, omega (arith, c.1), c.2)

both : (a b : Bool) → a && b ≡ true → (a ≡ true) × (b ≡ true)
both true b is = (refl, is)
both false b is = absurd (false≢true is)

-- the step of a server that is listed
one_listed : (all : List Server) (revision : List ℕ) (conn : ℕ) (v : Server) (t : Table) (step : Step) (o : Option Info) → v.info ≡ o
    → Contains all v → eqb v.kind 1 ≡ true → has_revision revision o ≡ true
    → Contains (given o (λ info. tells (conn ∷ []) (GcListing (listed_item v.code info ∷ []))) t).told step → ListsServer all revision step
one_listed all revision conn v t step None is has kind same c = absurd (false≢true same)
one_listed all revision conn v t step (Some info) is has kind same c = record {
  server = v;
  info = info;
  registered = has;
  kind = eqb-true v.kind 1 kind;
  told = is;
  asked = sym ((bytes_eq-Decides revision info.revision).0 same);
  what = sym (ap (λ (x : Step). x.what) (one_in (tells_step conn (GcListing (listed_item v.code info ∷ [])) t) step c));
}

step_listed : (all : List Server) (revision : List ℕ) (conn : ℕ) (v : Server) (vs : List Server) (t : Table) (step : Step) (b : Bool)
    → is_listed revision v ≡ b → Contains all v
    → ((u : Table) → Contains (each (filter (is_listed revision) vs) (tells_server conn) u).told step → ListsServer all revision step)
    → Contains (each (cond b (v ∷ filter (is_listed revision) vs) (filter (is_listed revision) vs)) (tells_server conn) t).told step
    → ListsServer all revision step
step_listed all revision conn v vs t step false is has rest c = rest t c
step_listed all revision conn v vs t step true is has rest c =
    let d : Deed = tells_server conn v t in
    let more : Deed = each (filter (is_listed revision) vs) (tells_server conn) d.table in
    by (Contains-append_cases d.told more.told step c)
  where
    by : Contains (tells_server conn v t).told step
        ⊎ Contains (each (filter (is_listed revision) vs) (tells_server conn) (tells_server conn v t).table).told step
        → ListsServer all revision step
    by (inl c) = let h =
        both (eqb v.kind 1) (has_revision revision v.info) is in one_listed all revision conn v t step v.info refl has h.0 h.1 c
    by (inr c) = rest (tells_server conn v t).table c

all_listed : (all : List Server) (revision : List ℕ) (conn : ℕ) (vs : List Server) → ((v : Server) → Contains vs v → Contains all v)
    → (t : Table) (step : Step) → Contains (each (filter (is_listed revision) vs) (tells_server conn) t).told step
    → ListsServer all revision step
all_listed all revision conn [] sub t step c = absurd (none_in step c)
all_listed all revision conn (v ∷ vs) sub t step c =
    step_listed all revision conn v vs t step (is_listed revision v) refl (sub v (first_in v vs))
    (λ u c. all_listed all revision conn vs (λ w c. sub w (later_in v w vs c)) u step c) c

pub listing_steps : (conn : ℕ) (revision : List ℕ) (t : Table) (step : Step) → Contains (on_listing conn revision t).told step
    → EndsListing step ⊎ ListsServer t.servers revision step
listing_steps conn revision t step c =
    let d : Deed = each (filter (is_listed revision) t.servers) (tells_server conn) t in
    by (Contains-append_cases d.told (tells (conn ∷ []) (GcListing []) d.table).told step c)
  where
    by : Contains (each (filter (is_listed revision) t.servers) (tells_server conn) t).told step
        ⊎ Contains (tells (conn ∷ []) (GcListing []) (each (filter (is_listed revision) t.servers) (tells_server conn) t).table).told step
        → EndsListing step ⊎ ListsServer t.servers revision step
    by (inl c) = inr (all_listed t.servers revision conn t.servers (λ v c. c) t step c)
    by (inr c) = inl (sym (ap (λ (x : Step). x.what) (one_in
        (tells_step conn (GcListing []) (each (filter (is_listed revision) t.servers) (tells_server conn) t).table) step c)))
