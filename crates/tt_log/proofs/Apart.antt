-- A connection that stands nowhere in a table: no rule tells it anything, nor brings it in.
use Rattle.std.proofs.Common.{◌≡◌, ◌⊎◌, inl, inr, ℕ, ◌+◌, ◌≤◌, ◌<◌, List, [], ◌∷◌, ◌++◌, refl, sym, ◌∙◌, subst, true, false, Bool, arith}
use Rattle.std.specs.Prelude.{◌==◌, drop, take, length, nat_le, map, not, ◌||◌}
use Rattle.std.specs.List.{AllByRecursion, list_any}
use Rattle.std.proofs.lemmas.Bool.{ne_eqb}
use Rattle.tt_edge.specs.declared.event.Event.{Event}
use Rattle.tt_log.specs.declared.deed.Step.{Step}
use Rattle.tt_log.specs.declared.deed.What.{What}
use Rattle.tt_log.specs.Origin.{Origin}
use Rattle.tt_log.specs.Member.{Member, is_playing}
use Rattle.tt_log.specs.Admin.{Admin}
use Rattle.tt_log.specs.Table.{Table, is_on, is_admin_on, is_live, playing}
use Rattle.tt_log.specs.Deed.{Said}
use Rattle.tt_log.specs.Desk.{admin_arrives, counted_aside, most_admins}
use Rattle.tt_log.specs.Tick.{drawn}
use Rattle.tt_log.specs.Events.{arrives, opened, counted_in, stepped, deed}
use Rattle.tt_log.specs.Tellings.{Filling, Telling, telling, filled, said_by}
use Rattle.tt_log.specs.Told.{told_to}
use Rattle.tt_log.proofs.Lists.{Among, NotIn, IsOther, all-append, all-take, all-drop, any-not, all-of-filter}
use Rattle.tt_log.proofs.Crew.{put, conns, admin_conns, put-conns, put-admin-conns, live-conns, live-admins}
use Rattle.tt_log.proofs.Changes.{step, told_with, turned, moved, Move, queues, begins_map, loads}
use Rattle.tt_log.proofs.Walk.{Turns, ahead-of, behind-of}
use Rattle.tt_log.proofs.Walk.{Base, Walk, Doors, Closing, Moves, Ticks, running, told_moved, of-asks, of-enters, of-leaves, of-deed}
use Rattle.tt_log.proofs.Ordered.{map-same, all-more}

abbrev pub Misses : ℕ → List Step → Type 0
Misses c steps = AllByRecursion (λ (s : Step). NotIn c s.to) steps

-- no member is on it, no admin is, and it does not wait
pub record IsApart (c : ℕ) (ms guests q : List ℕ) : Type 0 where
  pub members : NotIn c ms
  pub admins : NotIn c guests
  pub queue : NotIn c q

abbrev pub Apart : ℕ → Table → Type 0
Apart c t = IsApart c (conns t.members) (admin_conns t.admins) t.queue

-- it is still apart, and was told nothing
pub record Unseen (c : ℕ) (steps : List Step) (u : Table) : Type 0 where
  pub apart : Apart c u
  pub misses : Misses c steps

-- a rule passes it over: where it was opened before, or is not opened behind it
pub record Passes (c : ℕ) (t : Table) (steps : List Step) (u : Table) : Type 0 where
  pub openings : t.openings ≤ u.openings
  pub unseen : (c ≤ t.openings) ⊎ (u.openings < c) → Apart c t → Unseen c steps u

-- ---- members

pub among-not : (c : ℕ) (m : Member) (ms : List Member) → Among m ms → NotIn c (conns ms) → IsOther c m.conn
among-not c m [] there a = absurd there
among-not c m (x ∷ xs) (inl here) a = subst (λ (y : Member). IsOther c y.conn) here a.0
among-not c m (x ∷ xs) (inr later) a = among-not c m xs later a.1

admin-not : (c : ℕ) (m : Admin) (ms : List Admin) → Among m ms → NotIn c (admin_conns ms) → IsOther c m.conn
admin-not c m [] there a = absurd there
admin-not c m (x ∷ xs) (inl here) a = subst (λ (y : Admin). IsOther c y.conn) here a.0
admin-not c m (x ∷ xs) (inr later) a = admin-not c m xs later a.1

playing-not : (c : ℕ) (t : Table) → Apart c t → NotIn c (playing t)
playing-not c t a = all-of-filter (λ (m : Member). m.conn) is_playing c t.members a.members

put-apart : (c : ℕ) (n : Member) (t : Table) → Apart c t → IsApart c (conns (put n t.members)) (admin_conns t.admins) t.queue
put-apart c n t a = record {
  members = subst (λ (xs : List ℕ). NotIn c xs) (sym (put-conns n t.members)) a.members;
  admins =
      a.admins;
  queue = a.queue;
}

pub own-missed : (c conn : ℕ) (ws : List What) → IsOther c conn → Misses c (map (λ w. step (conn ∷ []) w) ws)
own-missed c conn [] ne = tt
own-missed c conn (w ∷ ws) ne = ((ne, tt), own-missed c conn ws ne)

pub moved-missed : (c : ℕ) (v : Move) (m : Member) → IsOther c m.conn → Misses c (told_moved v m)
moved-missed c queues m ne = tt
moved-missed c begins_map m ne = ((ne, tt), tt)
moved-missed c loads m ne = tt

-- ---- the walk

still-passes : (c : ℕ) (t : Table) → Passes c t [] t
still-passes c t = record { openings = omega arith; unseen = λ is a. record { apart = a; misses = tt } }

early : (c : ℕ) (x y z : ℕ) → y ≤ z → (c ≤ x) ⊎ (z < c) → (c ≤ x) ⊎ (y < c)
early c x y z l (inl opened) = inl opened
early c x y z l (inr unopened) = inr (omega (arith, l, unopened))

late : (c : ℕ) (x y z : ℕ) → x ≤ y → (c ≤ x) ⊎ (z < c) → (c ≤ y) ⊎ (z < c)
late c x y z l (inl opened) = inl (omega (arith, l, opened))
late c x y z l (inr unopened) = inr unopened

then-passes : (c : ℕ) (t u v : Table) (xs ys : List Step) → Passes c t xs u → Passes c u ys v → Passes c t (xs ++ ys) v
then-passes c t u v xs ys a b = record {
  openings = omega (arith, a.openings, b.openings);
  unseen = λ is apart.
      let first : Unseen c xs u = a.unseen (early c t.openings u.openings v.openings b.openings is) apart in
      let next : Unseen c ys v = b.unseen (late c t.openings u.openings v.openings a.openings is) first.apart in
      record { apart = next.apart; misses = all-append (λ (s : Step). NotIn c s.to) xs ys first.misses next.misses };
}

-- the openings are as they were
passes : (c : ℕ) (t : Table) (steps : List Step) (u : Table) → u.openings ≡ t.openings → (Apart c t → Unseen c steps u) → Passes c t steps u
passes c t steps u same unseen = record { openings = omega (arith, same); unseen = λ is a. unseen a }

says : (c : ℕ) (t : Table) (to : List ℕ) (w : What) → (Apart c t → NotIn c to) → Passes c t (step to w ∷ []) t
says c t to w not_in = passes c t _ t refl (λ a. record { apart = a; misses = (not_in a, tt) })

abbrev PassesBy : ℕ → Table → List Step → Table → Type 0
PassesBy c t steps u = Passes c t steps u

apart-turns : (c : ℕ) (o : Origin) (e : Event) → Turns o e (PassesBy c)
apart-turns c o e k t m on may by = passes c t _ _ refl (λ a. record {
  apart = put-apart c (turned k t m) t a;
  misses =
      own-missed c m.conn (told_with k o t m) (among-not c m t.members on a.members);
})

apart-base : (c : ℕ) (o : Origin) (e : Event) → Base o e (PassesBy c)
apart-base c o e = record {
  still = λ t. still-passes c t;
  joins = λ t u v xs ys a b. then-passes c t u v xs ys a b;
  turns = ahead-of o e (PassesBy c) (apart-turns c o e);
  tells_one = λ t m msg on talk. says c t (m.conn ∷ []) _ (λ a. (among-not c m t.members on a.members, tt));
  tells_some = λ t to w there news. says c t to w (λ a. there c (playing-not c t a));
  tells_admins = λ t to r may is. says c t to _ (λ a. may.within c a.admins);
}

apart-moves : (c : ℕ) (o : Origin) (e : Event) → Moves o e (PassesBy c)
apart-moves c o e = record {
  moving = λ v t m on may. passes c t _ _ refl (λ a. record {
    apart = put-apart c (moved v t m) t a;
    misses =
        moved-missed c v m (among-not c m t.members on a.members);
  });
  recalls = λ t m on at. says c t (m.conn ∷ []) _ (λ a. (among-not c m t.members on a.members, tt));
  waits_on = λ t conn n there. says c t (conn ∷ []) _ (λ a. there c a.queue);
  stands = λ t m on. passes c t [] _ refl (λ a. record {
    apart = record {
      members = a.members;
      admins = a.admins;
      queue =
          all-append (IsOther c) t.queue (m.conn ∷ []) a.queue (among-not c m t.members on a.members, tt);
    };
    misses = tt;
  });
  cuts = λ t place. passes c t [] _ refl (λ a. record {
    apart = record {
      members = a.members;
      admins = a.admins;
      queue = all-append (IsOther c) (take place t.queue) (drop (place + 1) t.queue)
          (all-take (IsOther c) place t.queue a.queue) (all-drop (IsOther c) (place + 1) t.queue a.queue);
    };
    misses = tt;
  });
  ends_one = λ t m on. says c t (m.conn ∷ []) _ (λ a. (among-not c m t.members on a.members, tt));
  parts = λ t m on. passes c t [] _ refl
      (λ a. record {
        apart = record {
          members = all-of-filter (λ (n : Member). n.conn) (λ n. not (is_on m.conn n)) c t.members a.members;
          admins = a.admins;
          queue = a.queue;
        };
        misses = tt;
      });
  greets = λ t m on at. passes c t _ _ refl (λ a. record {
    apart = put-apart c _ t a;
    misses =
        ((among-not c m t.members on a.members, tt), tt);
  });
}

apart-walk : (c : ℕ) (o : Origin) (e : Event) → Walk o e (PassesBy c)
apart-walk c o e = record {
  base = apart-base c o e;
  locks = λ t m digest on allowed. passes c t [] _ refl (λ a. record {
    apart = record {
      members = a.members;
      admins = a.admins;
      queue =
          a.queue;
    };
    misses = tt;
  });
  orders = λ t k is still. passes c t [] _ refl (λ a. record {
    apart = record { members = a.members; admins = a.admins; queue = a.queue };
    misses = tt;
  });
  asks_map = λ t m on at. of-asks o e (PassesBy c) (apart-base c o e) (apart-moves c o e) t m on at;
  enters_game = λ t m on at. of-enters o e (PassesBy c) (apart-base c o e) (apart-moves c o e) t m on at;
  goes = λ t m farewell on is. of-leaves o e (PassesBy c) (apart-base c o e) (apart-moves c o e) t m farewell on is;
  settles = λ t a b on is. passes c t [] _ refl (λ h. record {
    apart = record {
      members = h.members;
      admins = subst (λ (xs : List ℕ). NotIn c xs) (sym (put-admin-conns b t.admins)) h.admins;
      queue = h.queue;
    };
    misses = tt;
  });
  goes_aside = λ t b on. passes c t _ _ refl
      (λ a. record {
        apart = record {
          members = a.members;
          admins = all-of-filter (λ (d : Admin). d.conn) (λ d. not (is_admin_on b.conn d))
              c t.admins a.admins;
          queue = a.queue;
        };
        misses = ((admin-not c b t.admins on a.admins, tt), tt);
      });
}

-- what is opened is another one
pub is-new : (c n : ℕ) → (c ≤ n) ⊎ (n + 1 < c) → IsOther c (n + 1)
is-new c n (inl opened) = ne_eqb (n + 1) c (λ e. omega (arith, e, opened))
is-new c n (inr unopened) = ne_eqb (n + 1) c (λ e. omega (arith, e, unopened))

arrives-passes : (full : Bool) (c : ℕ) (t : Table) → Passes c t (arrives full (counted_in t)).told (arrives full (counted_in t)).table
arrives-passes true c t = record {
  openings = omega arith;
  unseen =
      λ is a. record {
        apart = record { members = a.members; admins = a.admins; queue = a.queue };
        misses =
            ((is-new c t.openings is, tt), ((is-new c t.openings is, tt), tt));
      };
}
arrives-passes false c t = record {
  openings = omega arith;
  unseen = λ is a. record {
    apart = record {
      members = all-more (IsOther c) (λ (m : Member). m.conn) t.members _ a.members (is-new c t.openings is);
      admins =
          a.admins;
      queue = a.queue;
    };
    misses = tt;
  };
}

aside-passes : (full : Bool) (c : ℕ) (t : Table) → Passes c t (admin_arrives full (counted_aside t)).told
    (admin_arrives full (counted_aside t)).table
aside-passes true c t = record {
  openings = omega arith;
  unseen =
      λ is a. record {
        apart = record { members = a.members; admins = a.admins; queue = a.queue };
        misses =
            ((is-new c t.openings is, tt), ((is-new c t.openings is, tt), tt));
      };
}
aside-passes false c t = record {
  openings = omega arith;
  unseen = λ is a. record {
    apart = record {
      members = a.members;
      admins = all-more (IsOther c) (λ (b : Admin). b.conn) t.admins _ a.admins
          (is-new c t.openings is);
      queue = a.queue;
    };
    misses = tt;
  };
}

apart-doors : (c : ℕ) (o : Origin) (e : Event) → Doors o e (PassesBy c)
apart-doors c o e = record {
  comes = λ t. arrives-passes (nat_le o.setup.max_clients (length t.members)) c t;
  comes_aside =
      λ t. aside-passes (nat_le most_admins (length t.admins)) c t;
}

running-passes : (b : Bool) (c : ℕ) (o : Origin) (t : Table) → Passes c t [] (running b o t)
running-passes true c o t = passes c t [] _ refl (λ a. record {
  apart = record { members = a.members; admins = a.admins; queue = a.queue };
  misses = tt;
})
running-passes false c o t = passes c t [] _ refl (λ a. record {
  apart = record { members = a.members; admins = a.admins; queue = a.queue };
  misses = tt;
})

apart-ticks : (c : ℕ) (o : Origin) (e : Event) → Ticks o e (PassesBy c)
apart-ticks c o e = record {
  stamping = λ t. passes c t [] _ refl
      (λ a. record {
        apart =
            record {
              members = subst (λ (xs : List ℕ). NotIn c xs) (sym (map-same (λ (m : Member). m.conn) drawn t.members (λ m. refl)))
                  a.members;
              admins = a.admins;
              queue = a.queue;
            };
        misses = tt;
      });
  behind = behind-of o e (PassesBy c) (apart-turns c o e);
  running = λ t b is. running-passes b c o t;
}

apart-closing : (c : ℕ) (o : Origin) (e : Event) → Closing o e (PassesBy c)
apart-closing c o e = record {
  charges = λ t. passes c t [] _ refl (λ a. record {
    apart = record { members = a.members; admins = a.admins; queue = a.queue };
    misses =
        tt;
  });
  closes = λ t. passes c t _ _ refl (λ a. record {
    apart = record { members = tt; admins = tt; queue = tt };
    misses =
        (a.members, (a.admins, (all-append (IsOther c) (conns t.members) (admin_conns t.admins) a.members a.admins, tt)));
  });
}

pub step-passes : (c : ℕ) (o : Origin) (e : Event) (t : Table) → Passes c t (deed o e t).told (stepped o t e)
step-passes c o e t = of-deed o e (PassesBy c) (apart-walk c o e) (apart-ticks c o e) (apart-doors c o e) (apart-closing c o e) t

-- ---- who is apart is not live, and hears nothing

any-or : (x y : Bool) → x ≡ false → y ≡ false → (x || y) ≡ false
any-or true y a b = absurd cc
any-or false y a b = b

pub apart-not-live : (c : ℕ) (t : Table) → Apart c t → is_live t c ≡ false
apart-not-live c t a = any-or _ _ (live-conns c t.members ∙ any-not c (conns t.members) a.members) (live-admins c t.admins
    ∙ any-not c (admin_conns t.admins) a.admins)

pub missed-one : (c : ℕ) (to : List ℕ) (said : List Said) (more : List Telling) → list_any (λ x. x == c) to ≡ false
    → told_to c (map (telling to) said ++ more) ≡ told_to c more
missed-one c to [] more is = refl
missed-one c to (s ∷ said) more is = rw is (missed-one c to said more is)

pub missed : (c : ℕ) (o : Origin) (f : Filling) (steps : List Step) → Misses c steps → told_to c (filled o f steps) ≡ []
missed c o f [] a = refl
missed c o f (s ∷ steps) a = missed-one c s.to (said_by o f s.what) (filled o f steps) (any-not c s.to a.0) ∙ missed c o f steps a.1
