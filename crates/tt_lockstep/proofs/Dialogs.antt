-- Messages that come one behind the other, and what a connection goes through by them.
use Rattle.std.proofs.Common.{◌≡◌, List, [], ◌∷◌, ◌++◌, refl, ap, sym, ◌∙◌, subst}
use Rattle.tt_lockstep.specs.Game.{Game}
use Rattle.tt_lockstep.specs.Server.{Server, Step, stepped, told}
use Rattle.tt_lockstep.specs.Leads.{Leads}
use Rattle.tt_lockstep.specs.Dialog.{Dialog, things, place_after}
use Rattle.tt_lockstep.proofs.Leading.{leads_nowhere, leads_by, leads_on}

module _ {D M W E : Type 0} (dialog : Dialog D M W E) where
  pub things-append : (place : D) (xs ys : List M) → things dialog place (xs ++ ys) ≡ things dialog place xs
      ++ things dialog (place_after dialog place xs) ys
  things-append place [] ys = refl
  things-append place (x ∷ xs) ys = ap (λ ts. dialog.thing place x ∷ ts) (things-append (dialog.next place x) xs ys)

  pub place-append : (place : D) (xs ys : List M) → place_after dialog place (xs ++ ys) ≡ place_after dialog (place_after dialog place xs)
      ys
  place-append place [] ys = refl
  place-append place (x ∷ xs) ys = place-append (dialog.next place x) xs ys

module _ {D M W E : Type 0} (game : Game W E) (dialog : Dialog D M W E) where
  -- by these messages the dialogue goes from one place to another, and what they tell leads from one server to another
  pub record Goes (place : D) (ms : List M) (old new : Server E) (end : D) : Type 0 where
    pub leads : Leads game old (things dialog place ms) new
    pub ends : place_after dialog place ms ≡ end

  pub Goes-nowhere : (place : D) (server : Server E) → Goes place [] server server place
  Goes-nowhere place server = record { leads = leads_nowhere game server; ends = refl }

  pub Goes-on : (x y z : D) (a b c : Server E) (xs ys : List M) → Goes x xs a b y → Goes y ys b c z → Goes x (xs ++ ys) a c z
  Goes-on x y z a b c xs ys p q =
      record {
        leads = subst (λ ts. Leads game a ts c) (sym (things-append dialog x xs ys))
            (leads_on game a b c (things dialog x xs) (things dialog (place_after dialog x xs) ys) p.leads
            (subst (λ place. Leads game b (things dialog place ys) c) (sym p.ends) q.leads));
        ends = place-append dialog x xs ys ∙ ap (λ place. place_after dialog place ys) p.ends ∙ q.ends;
      }

  -- the same way, where its ends and its messages are written otherwise
  pub Goes-is : (place end : D) (xs ys : List M) (a b old new : Server E) → Goes place xs a b end → xs ≡ ys → a ≡ old → b ≡ new
      → Goes place ys old new end
  Goes-is place end xs ys a b old new g p q r =
      subst (λ ys. Goes place ys old new end) p (subst (λ s. Goes place xs s new end) q (subst (λ s. Goes place xs a s end) r g))

  -- messages that tell just what a step tells
  pub Goes-by : (place end : D) (ms : List M) (server : Server E) (step : Step E)
      → things dialog place ms ≡ told game server step → place_after dialog place ms ≡ end
      → Goes place ms server (stepped game server step) end
  Goes-by place end ms server step is on =
      record { leads = subst (λ ts. Leads game server ts (stepped game server step)) (sym is) (leads_by game server step); ends = on }
