mod BarrierLemmas
