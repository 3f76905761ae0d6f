-- Changes and steps that are a rule at a table, and one rule behind another.
use Rattle.std.proofs.Common.{◌≡◌, ℕ, List, [], ◌∷◌, ◌++◌, refl, sym, subst, ap, ap₂, ◌∙◌, append_assoc, append-nil}
use Rattle.std.proofs.lemmas.List.{map-append}
use Rattle.tt_world.specs.declared.setup.Setup.{Setup}
use Rattle.tt_world.specs.declared.command.Entry.{Entry}
use Rattle.tt_log.specs.Origin.{Origin}
use Rattle.tt_log.specs.Admin.{Admin}
use Rattle.tt_log.specs.declared.deed.Step as book
use Rattle.tt_log.specs.Member.{Member}
use Rattle.tt_log.specs.Table.{Table}
use Rattle.tt_log.specs.Deed.{Deed, ◌▹◌}
use Rattle.tt_members.specs.declared.edit.Edit.{Edit}
use Rattle.tt_members.specs.declared.step.Step.{Step}
use Rattle.tt_members.specs.Crew.{Crew, Rest, origin_at, table_at}
use Rattle.tt_members.specs.Edits.{members_by, members_after, queue_by, queue_after}
use Rattle.tt_members.specs.Steps.{step_in, steps_in, stamp_of, stamped_in}
use Rattle.tt_members.specs.Planned.{Planned, IsPlain, nothing}
use Rattle.tt_members.specs.Done.{Does}

-- a table with changes of its members and its queue
abbrev pub edited : List Edit → Table → Table
edited es t = record t { members = members_after es t.members; queue = queue_after es t.queue }

-- a rule that these changes and steps are, at a table
pub record Tells (rule : Table → Deed) (es : List Edit) (ss : List Step) (t : Table) : Type 0 where
  pub told : steps_in t.admins ss ≡ (rule t).told
  pub table : edited es t ≡ (rule t).table

-- ---- lists one behind the other

pub members_append : (es fs : List Edit) (ms : List Member) → members_after (es ++ fs) ms ≡ members_after fs (members_after es ms)
members_append [] fs ms = refl
members_append (e ∷ es) fs ms = members_append es fs (members_by e ms)

pub queue_append : (es fs : List Edit) (queue : List ℕ) → queue_after (es ++ fs) queue ≡ queue_after fs (queue_after es queue)
queue_append [] fs queue = refl
queue_append (e ∷ es) fs queue = queue_append es fs (queue_by e queue)

pub stamped_append : (ss us : List Step) → stamped_in (ss ++ us) ≡ stamped_in ss ++ stamped_in us
stamped_append [] us = refl
stamped_append (s ∷ ss) us =
    ap (λ (es : List Entry). stamp_of s.what ++ es) (stamped_append ss us) ∙ sym (append_assoc (stamp_of s.what) (stamped_in ss)
    (stamped_in us))

-- steps that stamp nothing, one behind the other
pub silent_append : (ss us : List Step) → stamped_in ss ≡ [] → stamped_in us ≡ [] → stamped_in (ss ++ us) ≡ []
silent_append ss us one two = stamped_append ss us ∙ ap₂ (λ (xs ys : List Entry). xs ++ ys) one two

pub edited_append : (es fs : List Edit) (t : Table) → edited (es ++ fs) t ≡ edited fs (edited es t)
edited_append es fs t =
    ap₂ (λ (ms : List Member) (queue : List ℕ). record t { members = ms; queue = queue }) (members_append es fs t.members) (queue_append es
    fs t.queue)

pub steps_append : (admins : List Admin) (ss us : List Step) → steps_in admins (ss ++ us) ≡ steps_in admins ss ++ steps_in admins us
steps_append admins ss us = map-append (step_in admins) ss us

-- ---- one rule behind another

-- what two rules are, one behind the other
pub both : (one two : Table → Deed) (es fs : List Edit) (ss us : List Step) (t : Table) → Tells one es ss t → Tells two fs us (edited es t)
    → Tells (λ u. one u ▹ two) (es ++ fs) (ss ++ us) t
both one two es fs ss us t first second = record {
  told = steps_append t.admins ss us
      ∙ ap₂ (λ (xs ys : List book.Step). xs ++ ys) first.told (second.told ∙ ap (λ (u : Table). (two u).told) first.table);
  table = edited_append es fs t ∙ second.table ∙ ap (λ (u : Table). (two u).table) first.table;
}

-- a rule that is these changes and steps at one table is so at the same table, spelled otherwise
pub at_same : (rule : Table → Deed) (es : List Edit) (ss : List Step) (t u : Table) → t ≡ u → Tells rule es ss t → Tells rule es ss u
at_same rule es ss t u same tells = subst (Tells rule es ss) same tells

-- ---- plans

pub plain_on : {a b c : Planned} → IsPlain a b → IsPlain b c → IsPlain a c
plain_on p q = record {
  names = q.names ∙ p.names;
  offers = q.offers ∙ p.offers;
  asks = q.asks ∙ p.asks;
  counts = q.counts ∙ p.counts;
  arrives = q.arrives ∙ p.arrives;
  orders = q.orders ∙ p.orders;
  locks = q.locks ∙ p.locks;
  words = q.words ∙ p.words;
  beat = q.beat ∙ p.beat;
}

-- a plan of changes and steps alone that stamps nothing does what they do
pub does_plain : (setup : Setup) (crew : Crew) (frame top : ℕ) (r : Rest) (rule : Origin → Table → Deed) (p : Planned)
    → IsPlain nothing p → stamped_in p.steps ≡ [] → Tells (rule (origin_at setup r)) p.edits p.steps (table_at crew frame top r)
    → Does setup crew frame top r rule p
does_plain setup crew frame top r rule p plain silent tells = record {
  told = tells.told;
  table = rw (
    plain.names,
    plain.offers,
    plain.asks,
    plain.counts,
    plain.arrives,
    plain.orders,
    plain.locks,
    plain.words,
    plain.beat,
    silent,
  )
      (ap (λ (es : List Entry). record (edited p.edits (table_at crew frame top r)) { journal = es }) (append-nil r.journal) ∙ tells.table);
}

-- plans that hold the same do the same
pub does_by : (setup : Setup) (crew : Crew) (frame top : ℕ) (r : Rest) (rule : Origin → Table → Deed) (p q : Planned)
    → p ≡ q → Does setup crew frame top r rule q → Does setup crew frame top r rule p
does_by setup crew frame top r rule p q same d = subst (Does setup crew frame top r rule) (sym same) d
