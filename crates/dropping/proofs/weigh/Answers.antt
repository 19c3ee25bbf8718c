-- `dropping::weigh` meets its contract.
use mathlib.Core.Path.{refl, sym, ◌∙◌}
use Rattle.dropping.proofs.Answering.{weighed-unnamed, weighed-none, may-drop, weighed-dropped}
use Rattle.dropping.proofs.weigh.Goals as goal

pub returns-then-not-once : goal.returns-then-not-once
returns-then-not-once c = (weighed-unnamed _ _ _ (sym c.each_once-once.ensures ∙ c.if-not-once.true), refl)

pub returns-then-all : goal.returns-then-all
returns-then-all c =
    let t = c in
    (weighed-none _ _ _ (sym t.each_once-once.ensures ∙ t.if-not-once.false) c.if-all.true, refl)

pub shorten-requires : goal.shorten-requires
shorten-requires c =
    let t = c in
    may-drop _ _ _ (sym t.each_once-once.ensures ∙ t.if-not-once.false) c.if-all.false t.requires

pub returns : goal.returns
returns c =
    let s = c in
    let u = s in
    let t = u in
    (weighed-dropped _ _ _ (sym t.each_once-once.ensures ∙ t.if-not-once.false) u.if-all.false _ s.shorten.ensures.0, s.shorten.ensures.1)
