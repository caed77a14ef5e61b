use Rattle.std.proofs.Common.{◌≡◌, List, subst, sym, ◌∙◌, ap, IfOk, OnOk, Ok, Err}
use Rattle.std.specs.declared.result.Result.{Result}
use Rattle.sng_book.specs.declared.event.Event.{Event}
use Rattle.sng_book.specs.declared.event.Event.TheVariants as event
use Rattle.sng_book.specs.declared.out.Out.{Out}
use Rattle.sng_history.specs.State.{State}
use Rattle.sng_history.specs.Books.{row_outs, row_next}
use Rattle.sng_history.specs.Good.{Good}
use Rattle.sng_core.specs.Forms.{taken_outs, taken_next, begun_next}
use Rattle.sng_history.specs.Exits.{agains_of, beginning}
use Rattle.sng_core.proofs.IdleRows.{up_row, down_row, take_row}
use Rattle.sng_core.proofs.parts.Parts.perform.Goals as goal

up_next : {E : Type 0} (s after : State) (e : Event) (result : Result (List Out) E) → Good s → e ≡ event.Up
    → OnOk result (after ≡ begun_next s) → OnOk result (after ≡ row_next s e)
up_next s after e (Ok outs) good is next = next ∙ ((up_row s good).next ∙ sym (ap (row_next s) is))
up_next s after e (Err fault) good is next = tt

pub returns-in-Up-clause-next : goal.returns-in-Up-clause-next
returns-in-Up-clause-next c =
    up_next c.args.self.now c.begin_connection.new.self c.args.event c.begin_connection.result c.requires
    c.in-Up.is c.begin_connection.ensures.next

up_outs : {E : Type 0} (s : State) (e : Event) (result : Result (List Out) E) → Good s → e ≡ event.Up
    → IfOk result (λ outs. outs ≡ beginning s.link s.clock (agains_of s.policy s.link.in_flight))
    → IfOk result (λ outs. outs ≡ row_outs s e)
up_outs s e (Ok outs) good is made = made ∙ ((up_row s good).outs ∙ sym (ap (row_outs s) is))
up_outs s e (Err fault) good is made = tt

pub returns-in-Up-clause-outs : goal.returns-in-Up-clause-outs
returns-in-Up-clause-outs c =
    up_outs c.args.self.now c.args.event c.begin_connection.result c.requires c.in-Up.is
    c.begin_connection.ensures.outs

pub begin_connection-requires : goal.begin_connection-requires
begin_connection-requires c = c.requires.few

pub take-requires : goal.take-requires
take-requires c = c.requires.few

pub returns-in-Down-clause-next : goal.returns-in-Down-clause-next
returns-in-Down-clause-next c =
    c.end_connection.ensures ∙ ((down_row c.args.self.now c.requires).next
    ∙ sym (ap (row_next c.args.self.now) c.in-Down.is))

pub returns-in-Replace-clause-next : goal.returns-in-Replace-clause-next
returns-in-Replace-clause-next c =
    subst (λ e. OnOk c.replace.result (c.replace.new.self ≡ row_next c.args.self.now e))
    (sym c.in-Replace.is) c.replace.ensures.next

pub returns-in-Replace-clause-outs : goal.returns-in-Replace-clause-outs
returns-in-Replace-clause-outs c =
    subst (λ e. IfOk c.replace.result (λ outs. outs ≡ row_outs c.args.self.now e))
    (sym c.in-Replace.is) c.replace.ensures.outs

pub returns-in-Tick-clause-next : goal.returns-in-Tick-clause-next
returns-in-Tick-clause-next c =
    subst (λ e. OnOk c.tick.result (c.tick.new.self ≡ row_next c.args.self.now e))
    (sym c.in-Tick.is) c.tick.ensures.next

pub returns-in-Tick-clause-outs : goal.returns-in-Tick-clause-outs
returns-in-Tick-clause-outs c =
    subst (λ e. IfOk c.tick.result (λ outs. outs ≡ row_outs c.args.self.now e))
    (sym c.in-Tick.is) c.tick.ensures.outs

take_next : {E : Type 0} (s after : State) (e : Event) (result : Result (List Out) E) → Good s
    → e ≡ event.Take → OnOk result (after ≡ taken_next s) → OnOk result (after ≡ row_next s e)
take_next s after e (Ok outs) good is next = next ∙ ((take_row s good).next ∙ sym (ap (row_next s) is))
take_next s after e (Err fault) good is next = tt

pub returns-in-Take-clause-next : goal.returns-in-Take-clause-next
returns-in-Take-clause-next c =
    take_next c.args.self.now c.take.new.self c.args.event c.take.result c.requires c.in-Take.is
    c.take.ensures.next

take_outs : {E : Type 0} (s : State) (e : Event) (result : Result (List Out) E) → Good s → e ≡ event.Take
    → IfOk result (λ outs. outs ≡ taken_outs s) → IfOk result (λ outs. outs ≡ row_outs s e)
take_outs s e (Ok outs) good is made = made ∙ ((take_row s good).outs ∙ sym (ap (row_outs s) is))
take_outs s e (Err fault) good is made = tt

pub returns-in-Take-clause-outs : goal.returns-in-Take-clause-outs
returns-in-Take-clause-outs c =
    take_outs c.args.self.now c.args.event c.take.result c.requires c.in-Take.is c.take.ensures.outs

pub returns-in-Datagram-clause-outs : goal.returns-in-Datagram-clause-outs
returns-in-Datagram-clause-outs c =
    subst (λ e. IfOk c.datagram-in-Datagram.result (λ outs. outs ≡ row_outs c.args.self.now e))
    (sym c.in-Datagram.is)
    (subst (λ bytes. IfOk c.datagram-in-Datagram.result
    (λ outs. outs ≡ row_outs c.args.self.now (event.Datagram c.in-Datagram.from bytes)))
    c.as_slice.ensures c.datagram-in-Datagram.ensures.outs)
