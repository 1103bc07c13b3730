pub mod MemoView
